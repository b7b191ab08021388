use Rattle.std.proofs.Common.{◌+◌, sym, ap, subst, ◌∙◌}
use Rattle.std.proofs.lemmas.Result.{err_from_is_err_and}
use Rattle.plan_calendar.specs.Picking.{Entry}
use Rattle.book_year.specs.Accepted.{Accepted, accepted, plans_in}
use Rattle.book_year.specs.Jobs.{Counts}
use Rattle.book_year.specs.Picks.{planned_before, planned_after}
use Rattle.book_edits.specs.Kept.{AreYears}
use Rattle.book_edits.proofs.Laws.{same_years}
use Rattle.what_if.specs.Trials.{trial_of}
use Rattle.what_if.proofs.TrialLemmas.{cost_is, counts_try, new_planned, old_planned, tried}
use Rattle.what_if.proofs.trials.try_plan.Goals as goal

pub try_years-requires-clause-years : goal.try_years-requires-clause-years
try_years-requires-clause-years g c =
    let years = c.years.result.now in
    same_years (plans_in c.plans-2.result.now) (plans_in c.edited-picks.result.plans.now) years
    (λ d. sym (c.edited-picks.ensures.before d))
    (subst (λ t. AreYears t years) (sym c.plans-2.ensures) c.years.ensures.kept)

pub try_years-requires-clause-before : goal.try_years-requires-clause-before
try_years-requires-clause-before g c =
    let e : Entry Accepted = (c.args.day, accepted c.args.plan) in
    let picks = c.edited-picks.result in
    old_planned c.args.book.now e c.law.ensures (plans_in c.plans-2.result.now) c.plans-2.ensures (planned_before picks)
    (planned_after picks) c.edited-picks.ensures.before c.edited-picks.ensures.after

pub try_years-requires-clause-after : goal.try_years-requires-clause-after
try_years-requires-clause-after g c =
    let e : Entry Accepted = (c.args.day, accepted c.args.plan) in
    let picks = c.edited-picks.result in
    new_planned c.args.book.now e c.law.ensures (plans_in c.plans-2.result.now) c.plans-2.ensures (planned_before picks)
    (planned_after picks) c.edited-picks.ensures.before c.edited-picks.ensures.after c.law-2.ensures

pub returns-in_err-trial-clause-counted : goal.returns-in_err-trial-clause-counted
returns-in_err-trial-clause-counted g c =
    let e : Entry Accepted = (c.args.day, accepted c.args.plan) in
    let picks = c.edited-picks.result in
    let total = cost_is c.args.book.now e c.law.ensures (plans_in c.plans-2.result.now) c.plans-2.ensures
    (planned_before picks) (planned_after picks) c.edited-picks.ensures.before c.edited-picks.ensures.after c.years.result.now
    c.years.ensures.years in
    let p = err_from_is_err_and c.from_residual.result c.from_residual.ensures.1 in
    counts_try c.from_residual.result p.0 c.in_err-trial.field-0.0 c.try_years.result c.in_err-trial.field-0.0
    c.args.steps.now c.try_years.new.steps (trial_of c.args.book.now e).work.steps p.1 p.2 c.in_err-trial.was
    (subst (λ t. Counts c.try_years.result c.args.steps.now c.try_years.new.steps t) total c.try_years.ensures.counted)

pub returns-clause-ok : goal.returns-clause-ok
returns-clause-ok g c =
    let e : Entry Accepted = (c.args.day, accepted c.args.plan) in
    let picks = c.edited-picks.result in
    tried c.args.book.now e c.law.ensures (plans_in c.plans-2.result.now) c.plans-2.ensures (planned_before picks)
    (planned_after picks) c.edited-picks.ensures.before c.edited-picks.ensures.after c.years.result.now
    c.years.ensures.years c.in_ok-trial.trial c.in_ok-trial.ensures.ok

pub returns-clause-counted : goal.returns-clause-counted
returns-clause-counted g c =
    let e : Entry Accepted = (c.args.day, accepted c.args.plan) in
    let picks = c.edited-picks.result in
    c.in_ok-trial.ensures.counted
    ∙ ap (λ t. c.args.steps.now + t) (cost_is c.args.book.now e c.law.ensures (plans_in c.plans-2.result.now)
    c.plans-2.ensures (planned_before picks) (planned_after picks) c.edited-picks.ensures.before c.edited-picks.ensures.after
    c.years.result.now c.years.ensures.years)
