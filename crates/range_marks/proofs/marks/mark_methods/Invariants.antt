use Rattle.std.proofs.Common.{◌≡◌, ◌++◌, drop}
use Rattle.pap_tree.specs.Flowchart.{flowchart_of}
use Rattle.range_marks.specs.RangeMarks.{walk_findings, method_marks}
use Rattle.range_marks.proofs.marks.mark_methods.Given as goal

-- the marks so far, and those of the rest
abbrev pub invariant-loop-number : goal.invariant-loop-number
invariant-loop-number l =
    l.marks.items ++ method_marks (walk_findings l.findings) (flowchart_of l.plan) l.number (drop l.number l.methods)
    ≡ method_marks (walk_findings l.findings) (flowchart_of l.plan) 0 l.methods
