use Rattle.std.proofs.Common.{arith}
use Rattle.std.proofs.lemmas.List.Edits.{length-remove}
use Rattle.rising_lists.proofs.Laws.{without_rising}
use Rattle.payroll_records.specs.Orders.{day_cmp}
use Rattle.payroll_records.proofs.Laws.{day_total}
use Rattle.plan_calendar.specs.Picking.{day_of}
use Rattle.plan_calendar.proofs.calendar.Calendar.drop_day.Goals as goal

pub invariant_of-self : goal.invariant_of-self
invariant_of-self g c =
    let xs = c.self.inside.entries.items in
    let found = rw c.as_slice.ensures.value at c.in-Ok.ensures.found in
    let shorter = length-remove xs c.in-Ok.at found.within in
    rw c.remove-old.ensures.items (record {
      rising = rw (← found.without) (without_rising day_cmp day_total (day_of {P = g.row.P.Denot}) c.args.day xs c.self.invariant.rising);
      few = omega (arith, c.self.invariant.few);
    })
