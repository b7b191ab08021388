use Rattle.std.proofs.Common.{take}
use Rattle.pap_tree.specs.Flowchart.{flowchart_of}
use Rattle.interval_analysis.specs.private.BoundViews.{AreBounds}
use Rattle.interval_analysis.proofs.bounds.bounds_of.Given as goal

abbrev pub invariant-loop-method : goal.invariant-loop-method
invariant-loop-method l = AreBounds (flowchart_of l.plan) (take l.method-index l.order) l.bounds.items
