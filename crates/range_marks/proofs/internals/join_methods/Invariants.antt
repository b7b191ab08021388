use Rattle.pap_tree.specs.Flowchart.{flowchart_of}
use Rattle.range_marks.specs.RangeMarks.{findings_in}
use Rattle.range_marks.specs.private.InternalViews.{Joins}
use Rattle.range_marks.proofs.JoinLemmas.{FirstAssigned}
use Rattle.range_marks.proofs.internals.join_methods.Given as goal

-- what the methods so far put is joined
abbrev pub invariant-loop-number : goal.invariant-loop-number
invariant-loop-number l =
    Joins (flowchart_of l.plan).internals (FirstAssigned (flowchart_of l.plan) (findings_in l.survey) l.number) l.initial.ranges l.ranges
