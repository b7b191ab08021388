use Rattle.book_year.specs.Accepted.{plans_in}
use Rattle.recalc_engine.proofs.book.Book.new.Goals as goal

pub invariant_of-result : goal.invariant_of-result
invariant_of-result c = c.new.ensures.years (plans_in c.new-2.result)
