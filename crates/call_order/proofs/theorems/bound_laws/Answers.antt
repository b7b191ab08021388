use Rattle.call_order.proofs.BoundLemmas.{bound_small}
use Rattle.call_order.proofs.theorems.bound_laws.Goals as goal

pub returns : goal.returns
returns c = bound_small
