use Rattle.std.proofs.Common.{◌≡◌, ◌++◌, ◌+◌, drop, map}
use Rattle.pap_tree.specs.Flowchart.{routine_of}
use Rattle.flowchart_findings.specs.Findings.{methods_findings}
use Rattle.flowchart_findings.specs.private.SetViews.{unused_by}
use Rattle.flowchart_findings.proofs.flowchart.add_methods.Given as goal

abbrev pub invariant-loop-at : goal.invariant-loop-at
invariant-loop-at l =
    l.out.items ++ methods_findings l.reached l.exits (unused_by l.names) (l.at + 1) (map routine_of (drop l.at l.methods))
    ≡ l.initial.out.items ++ methods_findings l.reached l.exits (unused_by l.names) 1 (map routine_of l.methods)
