use Rattle.plan_notes.proofs.EdgeLemmas.{one_edges}
use Rattle.plan_notes.proofs.tag.tag_laws.Goals as goal

pub returns : goal.returns
returns c = record { one_list = one_edges }
