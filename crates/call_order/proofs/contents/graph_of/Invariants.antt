use Rattle.std.proofs.Common.{◌≡◌, map, take}
use Rattle.pap_tree.specs.Flowchart.{flowchart_of, routine_of}
use Rattle.call_order.specs.Graphs.{graph_within}
use Rattle.call_order.proofs.contents.graph_of.Given as goal

abbrev pub invariant-loop-method : goal.invariant-loop-method
invariant-loop-method l =
    l.graph.items ≡ graph_within (flowchart_of l.t).methods (map routine_of (take l.method-index l.method-items))
