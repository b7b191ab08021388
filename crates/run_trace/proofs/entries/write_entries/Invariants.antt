use Rattle.std.proofs.Common.{◌≡◌, ◌+◌, ◌++◌, drop}
use Rattle.pap_tree.specs.Flowchart.{flowchart_of}
use Rattle.run_trace.specs.RunPages.{numbered_entries}
use Rattle.run_trace.proofs.entries.write_entries.Given as goal

abbrev pub invariant-loop-at : goal.invariant-loop-at
invariant-loop-at l =
    l.page
    ++ numbered_entries (flowchart_of l.telling.plan.now) l.telling.lines.now l.values l.total (l.at + 1)
    (drop l.at l.steps)
    ≡ l.initial.page
    ++ numbered_entries (flowchart_of l.telling.plan.now) l.telling.lines.now l.initial.values l.total 1 l.steps
