use Rattle.std.proofs.Common.{ap, ◌∙◌}
use Rattle.book_year.specs.Accepted.{plans_in}
use Rattle.recalc_engine.specs.KeptRows.{rows_kept}
use Rattle.recalc_engine.proofs.MonthLemmas.{years_kept, years_paired}
use Rattle.recalc_engine.proofs.book.Book.months.Goals as goal

pub of-requires : goal.of-requires
of-requires c =
    let b = c.self.inside in
    rw c.as_slice.ensures.value (years_paired (plans_in b.plans) b.years.list.items c.self.invariant.each c.self.invariant.some)

pub returns : goal.returns
returns c =
    let b = c.self.inside in
    rw (← c.self.view_is) (c.of.ensures ∙ ap rows_kept c.as_slice.ensures.value ∙ years_kept (plans_in b.plans) b.years.list.items c.self.invariant.each)
