use Rattle.std.proofs.Common.{◌≡◌, ◌<◌, get_or, length, ap, ◌∙◌, arith}
use Rattle.std.proofs.lemmas.Result.{err_from_is_err_and}
use Rattle.book_year.specs.Accepted.{plans_in}
use Rattle.book_year.specs.Picks.{planned_before, planned_after}
use Rattle.book_edits.specs.RedoneClauses.{with_new}
use Rattle.book_edits.proofs.Laws.{out_after, out_in, years_few}
use Rattle.what_if.proofs.YearLemmas.{has_outcomes, trying_more, year_here}
use Rattle.what_if.proofs.trials.try_years.Goals as goal

pub overflow_add-runs : goal.overflow_add-runs
overflow_add-runs g c =
    let few = years_few (plans_in c.args.picks.now.plans.now) c.args.years.now c.requires.years in
    omega (
      arith,
      few,
      ap length c.as_slice-year-items.ensures.value,
      c.loop-year.invariant.redoing.runs_few,
      c.in_ok-done.ensures.done.few,
    )

pub overflow_add-taken : goal.overflow_add-taken
overflow_add-taken g c =
    let few = years_few (plans_in c.args.picks.now.plans.now) c.args.years.now c.requires.years in
    omega (
      arith,
      few,
      ap length c.as_slice-year-items.ensures.value,
      c.loop-year.invariant.redoing.taken_few,
      c.in_ok-done.ensures.done.cheap,
    )

pub push_year-requires-clause-before : goal.push_year-requires-clause-before
push_year-requires-clause-before g c =
    let ys = c.args.years.now.list.items in
    let y = c.year-item.result in
    let i = c.loop-year.year-index in
    let is : y ≡ get_or ys i y = c.year-item.is ∙ ap (λ t. get_or t i y) c.as_slice-year-items.ensures.value in
    let l : i < length ys = omega (arith, ap length c.as_slice-year-items.ensures.value, c.loop-year-test.true) in
    let here = year_here (plans_in c.args.picks.now.plans.now) ys i y c.requires.years.each l is in
    has_outcomes (planned_before c.args.picks.now) y c.requires.before here.kept

pub push_year-requires-clause-after : goal.push_year-requires-clause-after
push_year-requires-clause-after g c =
    has_outcomes (planned_after c.args.picks.now) (with_new c.year-item.result c.in_ok-done.done.outcomes) c.requires.after
    c.in_ok-done.ensures.done.kept

pub returns-in_err-done-clause-counted : goal.returns-in_err-done-clause-counted
returns-in_err-done-clause-counted g c =
    let picks = c.args.picks.now in
    let ys = c.args.years.now.list.items in
    let y = c.year-item.result in
    let i = c.loop-year.year-index in
    let is : y ≡ get_or ys i y = c.year-item.is ∙ ap (λ t. get_or t i y) c.as_slice-year-items.ensures.value in
    let e = err_from_is_err_and c.from_residual.result c.from_residual.ensures.1 in
    out_in (planned_before picks) (planned_after picks) ys i _ _ _ _ _ c.loop-year.invariant.redoing c.requires.years.rising y
    (omega (arith, ap length c.as_slice-year-items.ensures.value, c.loop-year-test.true)) is
    c.from_residual.result e.0 c.redo_year.result c.in_err-done.field-0.0 c.redo_year.new.steps e.1 c.in_err-done.was
    c.redo_year.ensures.counted

pub returns-in_err-push_year-clause-counted : goal.returns-in_err-push_year-clause-counted
returns-in_err-push_year-clause-counted g c =
    let picks = c.args.picks.now in
    let ys = c.args.years.now.list.items in
    let y = c.year-item.result in
    let i = c.loop-year.year-index in
    let is : y ≡ get_or ys i y = c.year-item.is ∙ ap (λ t. get_or t i y) c.as_slice-year-items.ensures.value in
    let e = err_from_is_err_and c.from_residual-in_err-push_year.result c.from_residual-in_err-push_year.ensures.1 in
    out_after (planned_before picks) (planned_after picks) ys i _ _ _ _ _ c.loop-year.invariant.redoing c.requires.years.rising y
    (omega (arith, ap length c.as_slice-year-items.ensures.value, c.loop-year-test.true)) is
    c.from_residual-in_err-push_year.result e.0 c.redo_year.new.steps e.1 c.in_ok-done.ensures.counted

pub loop-year-preserved : goal.loop-year-preserved
loop-year-preserved g c =
    let picks = c.args.picks.now in
    let ys = c.args.years.now.list.items in
    let y = c.year-item.result in
    let i = c.loop-year.year-index in
    let is : y ≡ get_or ys i y = c.year-item.is ∙ ap (λ t. get_or t i y) c.as_slice-year-items.ensures.value in
    let l : i < length ys = omega (arith, ap length c.as_slice-year-items.ensures.value, c.loop-year-test.true) in
    let here = year_here (plans_in picks.plans.now) ys i y c.requires.years.each l is in
    rw c.in_ok-push_year.ensures
    (trying_more (planned_before picks) (planned_after picks) ys i _ _ _ _ _ c.loop-year.invariant c.requires.years.rising y l is
    c.in_ok-done.done c.redo_year.new.steps here.own here.kept c.in_ok-done.ensures.done c.in_ok-done.ensures.counted)
