use Rattle.interval_walk.proofs.ReadWalk.{reads_all}
use Rattle.interval_walk.proofs.soundness.walks_read_all.Goals as goal

pub returns : goal.returns
returns c = reads_all
