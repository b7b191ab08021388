use Rattle.expr_grammar.proofs.Sizes.{sized, bounded}
use Rattle.expr_grammar.proofs.grammar.sized.Goals as goal

pub returns-clause-tokens : goal.returns-clause-tokens
returns-clause-tokens c = λ l ts x h. sized h

pub returns-clause-limit : goal.returns-clause-limit
returns-clause-limit c = bounded
