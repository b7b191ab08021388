use Rattle.expr_grammar.proofs.Decided.{one_of_two}
use Rattle.expr_grammar.proofs.grammar.always_one.Goals as goal

pub returns : goal.returns
returns c = λ l w ts end. one_of_two l w end ts
