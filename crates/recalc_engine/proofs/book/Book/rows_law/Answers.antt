use Rattle.std.proofs.Common.{◌≡◌, ap, subst, ◌∙◌}
use Rattle.std.specs.List.{AllByRecursion}
use Rattle.book_year.specs.Accepted.{plans_in}
use Rattle.recalc_engine.specs.Contents.{Contents}
use Rattle.recalc_engine.specs.MonthRows.{month_rows}
use Rattle.recalc_engine.specs.KeptRows.{rows_kept}
use Rattle.recalc_engine.specs.RowLaws.{HasBound}
use Rattle.recalc_engine.proofs.BookLemmas.{book_rows_rise}
use Rattle.recalc_engine.proofs.MonthLemmas.{years_kept}
use Rattle.recalc_engine.proofs.OutputLemmas.{book_rows_named, years_bounded}
use Rattle.recalc_engine.proofs.book.Book.rows_law.Goals as goal

pub returns : goal.returns
returns c =
    let b = c.self.inside in
    let plans = plans_in b.plans in
    let rows : rows_kept b.years.list.items ≡ month_rows c.args.self.now = years_kept plans b.years.list.items c.self.invariant.each ∙ ap (λ (book : Contents). month_rows book) c.self.view_is in
    record {
      rise = book_rows_rise c.args.self.now c.law.ensures;
      bounded = subst (AllByRecursion HasBound) rows (years_bounded plans b.years.list.items c.self.invariant.each);
      named = book_rows_named c.args.self.now c.law.ensures;
    }
