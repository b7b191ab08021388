use Rattle.std.proofs.Common.{length}
use Rattle.pap_expr.proofs.trail.Trail.+close.Given as goal

abbrev pub decreases-close : goal.decreases-close
decreases-close l = length l.frames.now
