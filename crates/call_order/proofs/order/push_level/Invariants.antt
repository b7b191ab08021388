use Rattle.call_order.specs.private.LevelViews.{IsPartly}
use Rattle.call_order.proofs.order.push_level.Given as goal

abbrev pub invariant-loop-i : goal.invariant-loop-i
invariant-loop-i l = IsPartly l.levels l.level l.i l.order.items
