use Rattle.interval_walk.proofs.FilledWalk.{none_empty}
use Rattle.interval_walk.proofs.soundness.no_range_gets_empty.Goals as goal

pub returns : goal.returns
returns c = none_empty
