use Rattle.interval_walk.proofs.AskedWalk.{refused_outright}
use Rattle.interval_walk.proofs.soundness.nothing_is_refused_outright.Goals as goal

pub returns : goal.returns
returns c = refused_outright
