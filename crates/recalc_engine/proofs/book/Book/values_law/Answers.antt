use Rattle.std.proofs.Common.{subst}
use Rattle.std.specs.Prelude.{All}
use Rattle.recalc_engine.specs.private.ValueViews.{IsYearKept}
use Rattle.recalc_engine.proofs.ValueLemmas.{listed_kept}
use Rattle.recalc_engine.proofs.book.Book.values_law.Goals as goal

pub returns : goal.returns
returns c =
    let b = c.self.inside in
    let kept = subst (All IsYearKept) c.as_slice.ensures.value c.each_year_is_kept.ensures in
    rw (← c.self.view_is) (listed_kept b.years.list.items kept)
