use Rattle.std.proofs.Common.{◌≡◌}
use Rattle.pap_expr.specs.NodeBytes.{black_end}
use Rattle.pap_expr.proofs.trail.black_end.Given as goal

abbrev pub invariant-loop-end : goal.invariant-loop-end
invariant-loop-end l = record { same : black_end l.text l.place ≡ black_end l.text l.end }

abbrev pub decreases-loop-end : goal.decreases-loop-end
decreases-loop-end l = l.end
