use Rattle.pap_cli.proofs.WordLemmas.{one_form}
use Rattle.pap_cli.proofs.call.word_laws.Goals as goal

pub returns : goal.returns
returns c = one_form
