use Rattle.pap_types.proofs.RunLemmas.{one_outputs}
use Rattle.pap_types.proofs.OutputLemmas.{stand_by_name}
use Rattle.pap_types.proofs.meaning.one_outputs.Goals as goal

pub returns : goal.returns
returns c = record { one = one_outputs; named = stand_by_name }
