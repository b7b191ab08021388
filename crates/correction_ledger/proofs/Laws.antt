-- The laws that other crates may cite.
use Rattle.correction_ledger.specs.OwedLaws.{OwedIsOne}
use Rattle.correction_ledger.proofs.SomeLemmas as some
-- Filing a month has one answer, and so has the question what is owed.
pub use Rattle.correction_ledger.proofs.AnswerLemmas.{filing_answers, owed_answers}

-- What is owed is one list.
pub one : OwedIsOne
one = some.owed_one
