use Rattle.std.proofs.Common.{◌≡◌, Some, sym, ap, subst, ◌∙◌}
use Rattle.plan_calendar.specs.Picking.{pick}
use Rattle.book_year.specs.Accepted.{accepted, plans_in}
use Rattle.book_year.specs.Rows.{job_of}
use Rattle.book_year.specs.Kept.{job_by}
use Rattle.recalc_engine.specs.Jobs.{HasNoOutputs, lent_job}
use Rattle.recalc_engine.proofs.JobLemmas.{job_of_row, no_year, year_row, year_is, no_job, none_on, job_is, has_plan, picked_none, picked_some}
use Rattle.recalc_engine.proofs.MonthLemmas.{year_paired}
use Rattle.recalc_engine.proofs.book.Book.job.Goals as goal

pub returns-in_err-year-clause-job : goal.returns-in_err-year-clause-job
returns-in_err-year-clause-job c =
    let b = c.self.inside in
    rw (← c.self.view_is, c.from_residual.ensures) (sym (ap job_of_row (no_year (plans_in b.plans) b.years.list.items c.as_slice.result.now c.args.key.now c.as_slice.ensures.value c.in_err-year.ensures)))

pub returns-in_err-year-clause-none : goal.returns-in_err-year-clause-none
returns-in_err-year-clause-none c =
    let b = c.self.inside in
    rw (← c.self.view_is, c.from_residual.ensures) (subst HasNoOutputs (sym (no_year (plans_in b.plans) b.years.list.items c.as_slice.result.now c.args.key.now c.as_slice.ensures.value c.in_err-year.ensures)) tt)

pub inputs_on-requires-clause-rising : goal.inputs_on-requires-clause-rising
inputs_on-requires-clause-rising c =
    let b = c.self.inside in
    (year_is (plans_in b.plans) b.years.list.items c.as_slice.result.now c.args.key.now c.as_slice.ensures.value c.in_ok-year.year.now c.in_ok-year.ensures c.self.invariant.each).kept.rising

pub inputs_on-requires-clause-paired : goal.inputs_on-requires-clause-paired
inputs_on-requires-clause-paired c =
    let b = c.self.inside in
    year_paired (plans_in b.plans) c.in_ok-year.year.now (year_is (plans_in b.plans) b.years.list.items c.as_slice.result.now c.args.key.now c.as_slice.ensures.value c.in_ok-year.year.now c.in_ok-year.ensures c.self.invariant.each)

pub returns-in_err-inputs-clause-job : goal.returns-in_err-inputs-clause-job
returns-in_err-inputs-clause-job c =
    let b = c.self.inside in
    let y = c.in_ok-year.year.now in
    let row = year_row (plans_in b.plans) b.years.list.items c.as_slice.result.now c.args.key.now c.as_slice.ensures.value y c.in_ok-year.ensures in
    let year = year_is (plans_in b.plans) b.years.list.items c.as_slice.result.now c.args.key.now c.as_slice.ensures.value y c.in_ok-year.ensures c.self.invariant.each in
    rw (← c.self.view_is, c.from_residual-in_err-inputs.ensures) (no_job (job_by (pick (plans_in b.plans)) y.records.items c.args.key.now.day) (c.in_err-inputs.ensures (pick (plans_in b.plans)) year.kept) ∙ sym (ap job_of_row row))

pub returns-in_err-inputs-clause-none : goal.returns-in_err-inputs-clause-none
returns-in_err-inputs-clause-none c =
    let b = c.self.inside in
    let y = c.in_ok-year.year.now in
    let row = year_row (plans_in b.plans) b.years.list.items c.as_slice.result.now c.args.key.now c.as_slice.ensures.value y c.in_ok-year.ensures in
    let year = year_is (plans_in b.plans) b.years.list.items c.as_slice.result.now c.args.key.now c.as_slice.ensures.value y c.in_ok-year.ensures c.self.invariant.each in
    rw (← c.self.view_is, c.from_residual-in_err-inputs.ensures) (subst HasNoOutputs (sym row) (none_on (pick (plans_in b.plans)) y.records.items c.args.key.now.day (c.in_err-inputs.ensures (pick (plans_in b.plans)) year.kept)))

pub returns-in_err-plan-clause-job : goal.returns-in_err-plan-clause-job
returns-in_err-plan-clause-job c =
    let b = c.self.inside in
    let y = c.in_ok-year.year.now in
    let year = year_is (plans_in b.plans) b.years.list.items c.as_slice.result.now c.args.key.now c.as_slice.ensures.value y c.in_ok-year.ensures c.self.invariant.each in
    absurd (has_plan (pick (plans_in b.plans)) y.records.items c.args.key.now.day c.in_ok-inputs.inputs.now (c.in_ok-inputs.ensures (pick (plans_in b.plans)) year.kept) (picked_none b.plans c.args.key.now.day c.in_err-plan.ensures))

pub returns-in_err-plan-clause-none : goal.returns-in_err-plan-clause-none
returns-in_err-plan-clause-none c =
    let b = c.self.inside in
    let y = c.in_ok-year.year.now in
    let year = year_is (plans_in b.plans) b.years.list.items c.as_slice.result.now c.args.key.now c.as_slice.ensures.value y c.in_ok-year.ensures c.self.invariant.each in
    absurd (has_plan (pick (plans_in b.plans)) y.records.items c.args.key.now.day c.in_ok-inputs.inputs.now (c.in_ok-inputs.ensures (pick (plans_in b.plans)) year.kept) (picked_none b.plans c.args.key.now.day c.in_err-plan.ensures))

pub returns-clause-job : goal.returns-clause-job
returns-clause-job c =
    let b = c.self.inside in
    let y = c.in_ok-year.year.now in
    let row = year_row (plans_in b.plans) b.years.list.items c.as_slice.result.now c.args.key.now c.as_slice.ensures.value y c.in_ok-year.ensures in
    let year = year_is (plans_in b.plans) b.years.list.items c.as_slice.result.now c.args.key.now c.as_slice.ensures.value y c.in_ok-year.ensures c.self.invariant.each in
    let its = job_is (pick (plans_in b.plans)) y.records.items c.args.key.now.day c.in_ok-inputs.inputs.now (c.in_ok-inputs.ensures (pick (plans_in b.plans)) year.kept) c.in_ok-plan.field-0-0 (accepted c.in_ok-plan.plan.now) (picked_some b.plans c.args.key.now.day c.in_ok-plan.field-0-0 c.in_ok-plan.plan.now c.in_ok-plan.ensures) in
    let lent : lent_job c.job_of.result ≡ job_of (accepted c.in_ok-plan.plan.now) c.in_ok-inputs.inputs.now = λ i. record { plan = accepted (c.job_of.ensures.plan i); inputs = c.job_of.ensures.inputs i } in
    rw (← c.self.view_is) (ap Some lent ∙ sym its.job ∙ sym (ap job_of_row row))

pub returns-clause-admitted : goal.returns-clause-admitted
returns-clause-admitted c =
    let b = c.self.inside in
    let y = c.in_ok-year.year.now in
    let year = year_is (plans_in b.plans) b.years.list.items c.as_slice.result.now c.args.key.now c.as_slice.ensures.value y c.in_ok-year.ensures c.self.invariant.each in
    let its = job_is (pick (plans_in b.plans)) y.records.items c.args.key.now.day c.in_ok-inputs.inputs.now (c.in_ok-inputs.ensures (pick (plans_in b.plans)) year.kept) c.in_ok-plan.field-0-0 (accepted c.in_ok-plan.plan.now) (picked_some b.plans c.args.key.now.day c.in_ok-plan.field-0-0 c.in_ok-plan.plan.now c.in_ok-plan.ensures) in
    rw (c.job_of.ensures.plan, c.job_of.ensures.inputs) (c.job_of.ensures.admitted its.values its.earlier its.filled)
