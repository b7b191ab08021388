use Rattle.book_year.specs.Accepted.{plans_in}
use Rattle.book_edits.proofs.Laws.{kept_in_order}
use Rattle.recalc_engine.proofs.book.Book.find.Goals as goal

pub find-requires : goal.find-requires
find-requires c =
    let b = c.self.inside in
    let kept = c.self.invariant in
    kept_in_order (plans_in b.plans) b.years.list.items (record { rising = kept.rising; each = kept.each; some = kept.some })
