use Rattle.std.proofs.Common.{Some, sym, ap, ◌∙◌}
use Rattle.std.specs.Option.{option_map}
use Rattle.rising_lists.specs.Places.{IsAt, IsGap}
use Rattle.payroll_records.specs.Orders.{day_cmp}
use Rattle.book_year.specs.Records.{record_day}
use Rattle.recalc_engine.specs.private.JobViews.{job_inputs}
use Rattle.recalc_engine.proofs.JobLemmas.{inputs_gap, inputs_here}
use Rattle.recalc_engine.proofs.job.inputs_on.Goals as goal

pub returns-in_default : goal.returns-in_default
returns-in_default c = λ planned are.
    let y = c.args.year.now in
    let gap : IsGap day_cmp record_day y.records.items c.args.day c.in_default.field-0 = rw (← c.as_slice.ensures.value) c.in_default.ensures.absent in
    sym (ap (option_map job_inputs) (inputs_gap planned y.records.items c.args.day c.in_default.field-0 gap))

pub returns-in_err-inputs : goal.returns-in_err-inputs
returns-in_err-inputs c = λ planned are.
    let y = c.args.year.now in
    let at : IsAt day_cmp record_day y.records.items c.args.day c.in-Ok.at = rw (← c.as_slice.ensures.value) c.in-Ok.ensures.found in
    rw c.from_residual.ensures (c.in_err-inputs.ensures.value ∙ inputs_here planned y.records.items y.outcomes.items c.args.day c.in-Ok.at c.index.result.now are at c.index.ensures)

pub returns : goal.returns
returns c = λ planned are.
    let y = c.args.year.now in
    let at : IsAt day_cmp record_day y.records.items c.args.day c.in-Ok.at = rw (← c.as_slice.ensures.value) c.in-Ok.ensures.found in
    ap Some c.as_slice-2.ensures ∙ c.in_ok-inputs.ensures.value ∙ inputs_here planned y.records.items y.outcomes.items c.args.day c.in-Ok.at c.index.result.now are at c.index.ensures
