use Rattle.interval_walk.proofs.RefusedWalk.{refusals_rows}
use Rattle.interval_walk.proofs.soundness.refusals_are_rows.Goals as goal

pub returns : goal.returns
returns c = refusals_rows
