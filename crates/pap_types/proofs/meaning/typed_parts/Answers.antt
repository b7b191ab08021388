use Rattle.pap_types.proofs.TypingLemmas.{has_types}
use Rattle.pap_types.proofs.WellTypedLemmas.{well_typed}
use Rattle.pap_types.proofs.meaning.typed_parts.Goals as goal

pub returns : goal.returns
returns c = λ f. (has_types f, well_typed f)
