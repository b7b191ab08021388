use Rattle.interval_walk.proofs.PlanSound.{analysis_sound}
use Rattle.interval_walk.proofs.soundness.admitted_inputs_are_safe.Goals as goal

pub returns : goal.returns
returns c = analysis_sound
