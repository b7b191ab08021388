use Rattle.std.proofs.Common.{sym}
use Rattle.plan_calendar.specs.Picking.{Entry, with_entry}
use Rattle.book_year.specs.Accepted.{Accepted, accepted, plans_in}
use Rattle.book_year.specs.Picks.{planned_before, planned_after}
use Rattle.book_edits.proofs.PlanLemmas.{after_put, same_years, redone_for, cost_for, plans_rise}
use Rattle.book_edits.proofs.plans.redone_with.Goals as goal

pub redo_years-requires-clause-years : goal.redo_years-requires-clause-years
redo_years-requires-clause-years g c =
    same_years (plans_in c.args.plans.now) (plans_in c.edited-picks.result.plans.now) c.args.years.now (λ d. sym (c.edited-picks.ensures.before d)) c.requires.years

pub returns-clause-done : goal.returns-clause-done
returns-clause-done g c =
    let plans = plans_in c.args.plans.now in
    let picks = c.edited-picks.result in
    let e : Entry Accepted = (c.args.day, accepted c.args.plan.now) in
    let new = after_put plans e (planned_after picks) (plans_rise c.args.plans.now c.requires.entries.rising) c.edited-picks.ensures.after in
    redone_for (planned_before picks) (planned_after picks) plans (with_entry e plans) c.edited-picks.ensures.before new c.args.years.now c.redo_years.result c.redo_years.ensures.done

pub returns-clause-counted : goal.returns-clause-counted
returns-clause-counted g c =
    let plans = plans_in c.args.plans.now in
    let picks = c.edited-picks.result in
    let e : Entry Accepted = (c.args.day, accepted c.args.plan.now) in
    let new = after_put plans e (planned_after picks) (plans_rise c.args.plans.now c.requires.entries.rising) c.edited-picks.ensures.after in
    rw (← cost_for (planned_before picks) (planned_after picks) plans (with_entry e plans) c.edited-picks.ensures.before new c.args.years.now) c.redo_years.ensures.counted
