use Rattle.expr_grammar.proofs.Decided.{one_meaning}
use Rattle.expr_grammar.proofs.grammar.one_tree.Goals as goal

pub returns : goal.returns
returns c = one_meaning
