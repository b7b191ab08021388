use Rattle.expr_tokens.proofs.Laws.{one_reading}
use Rattle.expr_grammar.proofs.Laws.{one_text}
use Rattle.pap_expr.proofs.laws.each_text_has_one_tree.Goals as goal

pub returns : goal.returns
returns c = one_text (one_reading 0)
