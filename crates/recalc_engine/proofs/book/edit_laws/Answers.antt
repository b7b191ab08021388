use Rattle.recalc_engine.proofs.AnswerLemmas.{one_answer}
use Rattle.recalc_engine.proofs.book.edit_laws.Goals as goal

pub returns : goal.returns
returns c = one_answer
