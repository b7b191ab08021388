use Rattle.expr_grammar.proofs.Ranges.{tree_ranged}
use Rattle.expr_grammar.proofs.SpelledTexts.{spelling_text}
use Rattle.expr_grammar.proofs.grammar.spells.Goals as goal

pub returns : goal.returns
returns c = λ l ts x h. spelling_text x (tree_ranged l ts x h)
