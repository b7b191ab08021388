use Rattle.expr_grammar.proofs.Decided.{answer_ok, ok_answer, answer_err, err_answer}
use Rattle.expr_grammar.proofs.grammar.decides.Goals as goal

pub returns-clause-meaning : goal.returns-clause-meaning
returns-clause-meaning c = λ l w ts end x. (answer_ok l w end ts x, λ h. ok_answer l w end ts x h.0 h.1)

pub returns-clause-refusal : goal.returns-clause-refusal
returns-clause-refusal c = λ l w ts end r. (answer_err l w end ts r, err_answer l w end ts r)
