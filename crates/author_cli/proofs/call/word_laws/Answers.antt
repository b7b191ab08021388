use Rattle.author_cli.proofs.WordLemmas.{one_form}
use Rattle.author_cli.proofs.call.word_laws.Goals as goal

pub returns : goal.returns
returns c = λ words a b h k. one_form words a b h k
