use Rattle.payroll_records.proofs.name_order.number_under.Goals as goal

pub returns-in-Ok : goal.returns-in-Ok
returns-in-Ok c =
    let number = (c.read_dec.ensures.number c.in-Ok.value).0 c.in-Ok.is in
    record {
      text = c.in_ok-number.number.now;
      split = c.in_ok-number.ensures.split;
      named = c.in_ok-number.ensures.named;
      spelled = number.0;
      kept = number.1;
    }
