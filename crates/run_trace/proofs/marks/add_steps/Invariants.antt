use Rattle.std.proofs.Common.{◌≡◌, ◌+◌, drop}
use Rattle.std.specs.List.{fold}
use Rattle.pap_tree.specs.Flowchart.{flowchart_of}
use Rattle.run_trace.specs.RunMarks.{executions_from}
use Rattle.run_trace.specs.private.MarkViews.{after_execution}
use Rattle.run_trace.proofs.marks.add_steps.Given as goal

abbrev pub invariant-loop-at : goal.invariant-loop-at
invariant-loop-at l =
    let f = flowchart_of l.telling.plan.now in
    fold (after_execution f) l.tallies (executions_from f (l.at + 1) l.values (drop l.at l.steps))
    ≡ fold (after_execution f) l.initial.tallies (executions_from f 1 l.initial.values l.steps)
