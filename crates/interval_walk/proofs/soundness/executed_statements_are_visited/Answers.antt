use Rattle.interval_walk.proofs.VisitSound.{executed_visited}
use Rattle.interval_walk.proofs.soundness.executed_statements_are_visited.Goals as goal

pub returns : goal.returns
returns c = executed_visited
