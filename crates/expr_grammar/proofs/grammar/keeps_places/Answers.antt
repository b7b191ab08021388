use Rattle.expr_grammar.proofs.Places.{keeps, bytes_keep}
use Rattle.expr_grammar.proofs.grammar.keeps_places.Goals as goal

pub returns-clause-tokens : goal.returns-clause-tokens
returns-clause-tokens c = λ l ts x p h. keeps h p

pub returns-clause-bytes : goal.returns-clause-bytes
returns-clause-bytes c = bytes_keep
