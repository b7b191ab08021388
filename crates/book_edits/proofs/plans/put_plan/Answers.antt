use Rattle.std.proofs.Common.{refl, sym, ap, ◌∙◌}
use Rattle.std.proofs.lemmas.Result.{err_from_is_err_and}
use Rattle.plan_calendar.specs.Picking.{pick, with_entry}
use Rattle.book_year.specs.Accepted.{accepted, plans_in}
use Rattle.book_edits.specs.Replans.{replan_cost}
use Rattle.book_edits.proofs.PlanEditLemmas.{counts_edit, ok_from_not_err}
use Rattle.book_edits.proofs.PlanLemmas.{put_in_plans}
use Rattle.book_edits.proofs.MergeLemmas.{redone_length, replanned}
use Rattle.book_edits.proofs.plans.put_plan.Goals as goal

pub returns-in_err-done-clause-counted : goal.returns-in_err-done-clause-counted
returns-in_err-done-clause-counted g c =
    let p = err_from_is_err_and c.from_residual.result c.from_residual.ensures.1 in
    let total = replan_cost (plans_in c.args.plans.now) (with_entry (c.args.day, accepted c.args.plan) (plans_in c.args.plans.now)) c.args.years.now in
    counts_edit c.from_residual.result p.0 c.in_err-done.field-0.0 c.redone_with.result c.in_err-done.field-0.0 c.args.steps.now c.redone_with.new.steps total p.1 p.2 c.in_err-done.was c.redone_with.ensures.counted

pub put_in-requires : goal.put_in-requires
put_in-requires g c =
    redone_length (pick (with_entry (c.args.day, accepted c.args.plan) (plans_in c.args.plans.now))) c.args.years.now.list.items c.in_ok-done.done.outcomes.items c.in_ok-done.ensures.done.all

pub returns-clause-ok : goal.returns-clause-ok
returns-clause-ok g c =
    let wanted = with_entry (c.args.day, accepted c.args.plan) (plans_in c.args.plans.now) in
    let plans_new = ok_from_not_err c.put.result _ (sym c.is_err.ensures.value ∙ c.if-is_err.false) c.put.ensures.ok in
    replanned (plans_in c.args.plans.now) wanted c.args.years.now _ c.in_ok-done.done c.requires c.in_ok-done.ensures.done c.put_in.ensures refl _ (ap plans_in plans_new ∙ put_in_plans (c.args.day, c.args.plan) c.args.plans.now)
