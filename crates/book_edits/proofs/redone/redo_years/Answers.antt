use Rattle.std.proofs.Common.{◌≡◌, get_or, length, ap, ◌∙◌, arith}
use Rattle.std.proofs.lemmas.Result.{err_from_is_err_and}
use Rattle.book_year.specs.Accepted.{plans_in}
use Rattle.book_year.specs.Picks.{planned_before, planned_after}
use Rattle.book_edits.proofs.RedoneLemmas.{out_in, out_after, redoing_more}
use Rattle.book_edits.proofs.YearLemmas.{years_few}
use Rattle.book_edits.proofs.redone.redo_years.Goals as goal

pub overflow_add-runs : goal.overflow_add-runs
overflow_add-runs g c =
    let few = years_few (plans_in c.args.picks.now.plans.now) c.args.years.now c.requires.years in
    omega (arith, few, ap length c.as_slice-year-items.ensures.value, c.loop-year.invariant.runs_few, c.in_ok-done.ensures.done.few)

pub overflow_add-taken : goal.overflow_add-taken
overflow_add-taken g c =
    let few = years_few (plans_in c.args.picks.now.plans.now) c.args.years.now c.requires.years in
    omega (arith, few, ap length c.as_slice-year-items.ensures.value, c.loop-year.invariant.taken_few, c.in_ok-done.ensures.done.cheap)

pub returns-in_err-done-clause-counted : goal.returns-in_err-done-clause-counted
returns-in_err-done-clause-counted g c =
    let picks = c.args.picks.now in
    let ys = c.args.years.now.list.items in
    let y = c.year-item.result in
    let i = c.loop-year.year-index in
    let is : y ≡ get_or ys i y = c.year-item.is ∙ ap (λ t. get_or t i y) c.as_slice-year-items.ensures.value in
    let e = err_from_is_err_and c.from_residual.result c.from_residual.ensures.1 in
    out_in (planned_before picks) (planned_after picks) ys i _ _ _ _ _ c.loop-year.invariant c.requires.years.rising y (omega (arith, ap length c.as_slice-year-items.ensures.value)) is
    c.from_residual.result e.0 c.redo_year.result c.in_err-done.field-0.0 c.redo_year.new.steps e.1 c.in_err-done.was c.redo_year.ensures.counted

pub returns-in_err-push-clause-counted : goal.returns-in_err-push-clause-counted
returns-in_err-push-clause-counted g c =
    let picks = c.args.picks.now in
    let ys = c.args.years.now.list.items in
    let y = c.year-item.result in
    let i = c.loop-year.year-index in
    let is : y ≡ get_or ys i y = c.year-item.is ∙ ap (λ t. get_or t i y) c.as_slice-year-items.ensures.value in
    let e = err_from_is_err_and c.from_residual-in_err-push.result c.from_residual-in_err-push.ensures.1 in
    out_after (planned_before picks) (planned_after picks) ys i _ _ _ _ _ c.loop-year.invariant c.requires.years.rising y (omega (arith, ap length c.as_slice-year-items.ensures.value)) is
    c.from_residual-in_err-push.result e.0 c.redo_year.new.steps e.1 c.in_ok-done.ensures.counted

pub loop-year-preserved : goal.loop-year-preserved
loop-year-preserved g c =
    let picks = c.args.picks.now in
    let ys = c.args.years.now.list.items in
    let y = c.year-item.result in
    let i = c.loop-year.year-index in
    let is : y ≡ get_or ys i y = c.year-item.is ∙ ap (λ t. get_or t i y) c.as_slice-year-items.ensures.value in
    rw c.in_ok-push.ensures.items
    (redoing_more (planned_before picks) (planned_after picks) ys i _ _ _ _ _ c.loop-year.invariant c.requires.years.rising y (omega (arith, ap length c.as_slice-year-items.ensures.value)) is
    c.in_ok-done.done c.redo_year.new.steps c.in_ok-done.ensures.done c.in_ok-done.ensures.counted)
