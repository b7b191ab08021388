use Rattle.call_order.specs.private.LevelViews.{AreLevels}
use Rattle.call_order.proofs.levels.levels_of.Given as goal

abbrev pub invariant-loop-longest : goal.invariant-loop-longest
invariant-loop-longest l = AreLevels l.graph l.longest l.levels.items
