use Rattle.call_order.specs.private.LevelViews.{IsPartly}
use Rattle.call_order.proofs.order.by_level.Given as goal

abbrev pub invariant-loop-level : goal.invariant-loop-level
invariant-loop-level l = IsPartly l.levels (l.level) 0 l.order.items
