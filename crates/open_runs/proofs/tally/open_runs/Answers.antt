use Rattle.std.proofs.Common.{◌∙◌, ◌<◌, ◌-◌, ◌^◌, ap, arith, length}
use Rattle.recalc_engine.specs.MonthRows.{month_rows}
use Rattle.recalc_engine.proofs.Laws.{book_rows_counted}
use Rattle.open_runs.specs.private.Tallies.{tally_of}
use Rattle.open_runs.proofs.TallyLemmas.{counted_all, none_left}
use Rattle.open_runs.proofs.tally.open_runs.Goals as goal

pub returns : goal.returns
returns c =
    let is = c.into_iter-row-iterator.ensures.into_iter_gives ∙ c.months-row-items.ensures in
    let few : length (month_rows c.args.book.now) < 2 ^ 64 - 1 = omega (arith, book_rows_counted c.args.book.now, c.law.ensures.few) in
    none_left c.into_iter-row-iterator.result c.loop-row.row-iterator _ c.in-None.ensures.steps.0 c.loop-row.invariant
    ∙ ap (λ r. tally_of r) is ∙ counted_all (month_rows c.args.book.now) few
