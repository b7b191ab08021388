use Rattle.interval_walk.proofs.ReadSound.{reading_free}
use Rattle.interval_walk.proofs.soundness.reading_refuses_nothing.Goals as goal

pub returns : goal.returns
returns c = reading_free
