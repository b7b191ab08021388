use Rattle.std.specs.Prelude.{IfSome}
use Rattle.pap_tree.specs.Flowchart.{flowchart_of}
use Rattle.range_parts.specs.Parts.{AreRangeParts}
use Rattle.failing_input.proofs.search.best_split.Given as goal

abbrev pub invariant-loop-i : goal.invariant-loop-i
invariant-loop-i l = IfSome l.other (AreRangeParts (flowchart_of l.t) l.part)
