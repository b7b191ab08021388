use Rattle.pap_types.proofs.BoundLemmas.{cost_at_most, bounded_by_nodes}
use Rattle.pap_types.proofs.meaning.bounded.Goals as goal

pub returns : goal.returns
returns c = record { runs = cost_at_most; terms = bounded_by_nodes }
