use Rattle.recalc_engine.proofs.BookLemmas.{whole_book}
use Rattle.recalc_engine.proofs.book.Book.law.Goals as goal

pub returns : goal.returns
returns c =
    let b = c.self.inside in
    rw (← c.self.view_is) (whole_book c.entries.result.now b.plans b.years b.last c.self.invariant c.entries.ensures.are c.entries.ensures.all c.each_is_accepted.ensures)
