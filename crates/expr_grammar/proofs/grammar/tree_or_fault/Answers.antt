use Rattle.expr_grammar.proofs.Decided.{text_or_refusal}
use Rattle.expr_grammar.proofs.grammar.tree_or_fault.Goals as goal

pub returns : goal.returns
returns c = λ l w ts end x d at h. text_or_refusal l ts end x d at h.0 h.1
