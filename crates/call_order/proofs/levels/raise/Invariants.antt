use Rattle.call_order.specs.private.LevelViews.{AreRaised}
use Rattle.call_order.proofs.levels.raise.Given as goal

abbrev pub invariant-loop-i : goal.invariant-loop-i
invariant-loop-i l = AreRaised l.graph l.longest l.i l.levels
