use Rattle.interval_walk.proofs.NodeShapes.{ranged_shape}
use Rattle.interval_walk.proofs.soundness.ranges_suit_their_kinds.Goals as goal

pub returns : goal.returns
returns c = ranged_shape
