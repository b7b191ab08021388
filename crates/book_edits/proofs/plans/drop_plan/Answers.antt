use Rattle.std.proofs.Common.{refl, ap, ◌∙◌}
use Rattle.std.proofs.lemmas.Result.{err_from_is_err_and}
use Rattle.plan_calendar.specs.Picking.{pick, without_day}
use Rattle.book_year.specs.Accepted.{plans_in}
use Rattle.book_edits.specs.Replans.{replan_cost}
use Rattle.book_edits.proofs.PlanEditLemmas.{counts_edit}
use Rattle.book_edits.proofs.PlanLemmas.{drop_in_plans}
use Rattle.book_edits.proofs.MergeLemmas.{redone_length, replanned}
use Rattle.book_edits.proofs.plans.drop_plan.Goals as goal

pub returns-in_err-done-clause-counted : goal.returns-in_err-done-clause-counted
returns-in_err-done-clause-counted g c =
    let p = err_from_is_err_and c.from_residual.result c.from_residual.ensures.1 in
    let total = replan_cost (plans_in c.args.plans.now) (without_day c.args.day (plans_in c.args.plans.now)) c.args.years.now in
    counts_edit c.from_residual.result p.0 c.in_err-done.field-0.0 c.redone_without.result c.in_err-done.field-0.0 c.args.steps.now c.redone_without.new.steps total p.1 p.2 c.in_err-done.was c.redone_without.ensures.counted

pub put_in-requires : goal.put_in-requires
put_in-requires g c =
    redone_length (pick (without_day c.args.day (plans_in c.args.plans.now))) c.args.years.now.list.items c.in_ok-done.done.outcomes.items c.in_ok-done.ensures.done.all

pub returns-clause-ok : goal.returns-clause-ok
returns-clause-ok g c =
    let wanted = without_day c.args.day (plans_in c.args.plans.now) in
    replanned (plans_in c.args.plans.now) wanted c.args.years.now _ c.in_ok-done.done c.requires c.in_ok-done.ensures.done c.put_in.ensures refl _ (ap plans_in c.drop_day-plan.ensures.after ∙ drop_in_plans c.args.day c.args.plans.now)
