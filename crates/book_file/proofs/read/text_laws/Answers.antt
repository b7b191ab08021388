use Rattle.book_file.proofs.AnswerLemmas.{fronts, one, one_book, some}
use Rattle.book_file.proofs.read.text_laws.Goals as goal

pub returns-clause-some : goal.returns-clause-some
returns-clause-some c = some

pub returns-clause-one : goal.returns-clause-one
returns-clause-one c = one

pub returns-clause-fronts : goal.returns-clause-fronts
returns-clause-fronts c = fronts

pub returns-clause-book : goal.returns-clause-book
returns-clause-book c = one_book
