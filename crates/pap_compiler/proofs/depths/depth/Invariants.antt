use Rattle.pap_tree.specs.Flowchart.{flowchart_of}
use Rattle.pap_compiler.proofs.DepthLemmas.{AreDepths}
use Rattle.pap_compiler.proofs.depths.depth.Given as goal

abbrev pub invariant-loop-number : goal.invariant-loop-number
invariant-loop-number l = AreDepths (flowchart_of l.t) l.order l.number-index l.depths.items
