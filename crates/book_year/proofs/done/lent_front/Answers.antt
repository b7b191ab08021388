use Rattle.book_year.proofs.done.lent_front.Goals as goal

pub returns-then-reads : goal.returns-then-reads
returns-then-reads c = λ planned is. rw c.if-reads.true (c.front.ensures planned is)
