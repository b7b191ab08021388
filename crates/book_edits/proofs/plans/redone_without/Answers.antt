use Rattle.std.proofs.Common.{sym}
use Rattle.plan_calendar.specs.Picking.{without_day}
use Rattle.book_year.specs.Accepted.{plans_in}
use Rattle.book_year.specs.Picks.{planned_before, planned_after}
use Rattle.book_year.proofs.Laws.{pick_before_lent}
use Rattle.book_edits.proofs.PlanLemmas.{after_drop, same_years, redone_for, cost_for, plans_rise}
use Rattle.book_edits.proofs.plans.redone_without.Goals as goal

pub redo_years-requires-clause-years : goal.redo_years-requires-clause-years
redo_years-requires-clause-years g c =
    same_years (plans_in c.args.plans.now) (plans_in c.edited-picks.result.plans.now) c.args.years.now (λ d. sym (c.edited-picks.ensures.before d)) c.requires.years

pub returns-clause-done : goal.returns-clause-done
returns-clause-done g c =
    let plans = plans_in c.args.plans.now in
    let picks = c.edited-picks.result in
    let day = c.args.day in
    let new = after_drop plans day _ (planned_after picks) (plans_rise c.args.plans.now c.requires.entries.rising) c.requires.there (pick_before_lent c.args.plans.now day c.pick_before.result c.pick_before.ensures) c.edited-picks.ensures.after in
    redone_for (planned_before picks) (planned_after picks) plans (without_day day plans) c.edited-picks.ensures.before new c.args.years.now c.redo_years.result c.redo_years.ensures.done

pub returns-clause-counted : goal.returns-clause-counted
returns-clause-counted g c =
    let plans = plans_in c.args.plans.now in
    let picks = c.edited-picks.result in
    let day = c.args.day in
    let new = after_drop plans day _ (planned_after picks) (plans_rise c.args.plans.now c.requires.entries.rising) c.requires.there (pick_before_lent c.args.plans.now day c.pick_before.result c.pick_before.ensures) c.edited-picks.ensures.after in
    rw (← cost_for (planned_before picks) (planned_after picks) plans (without_day day plans) c.edited-picks.ensures.before new c.args.years.now) c.redo_years.ensures.counted
