use Rattle.std.proofs.Common.{ℕ, ◌<◌}
use Rattle.call_order.specs.Chains.{ReachesItself}
use Rattle.call_order.proofs.cycles.first_in_cycle.Given as goal

abbrev pub invariant-loop-i : goal.invariant-loop-i
invariant-loop-i l = (k : ℕ) → k < l.i → ReachesItself l.graph k → ⊥
