use Rattle.expr_grammar.proofs.Decided.{one_refusal}
use Rattle.expr_grammar.proofs.grammar.one_fault.Goals as goal

pub returns : goal.returns
returns c = λ l w. one_refusal l
