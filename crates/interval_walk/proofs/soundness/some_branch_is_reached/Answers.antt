use Rattle.interval_walk.proofs.ReachedSound.{some_branch}
use Rattle.interval_walk.proofs.soundness.some_branch_is_reached.Goals as goal

pub returns : goal.returns
returns c = some_branch
