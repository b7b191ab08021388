use Rattle.std.proofs.Common.{take}
use Rattle.call_order.specs.private.LengthViews.{AreLengths}
use Rattle.call_order.proofs.lengths.lengths_of.Given as goal

abbrev pub invariant-loop-method : goal.invariant-loop-method
invariant-loop-method l = AreLengths l.graph (take l.method-index l.order) l.lengths.items
