use Rattle.pap_tree.specs.Flowchart.{flowchart_of}
use Rattle.range_marks.specs.RangeMarks.{findings_in}
use Rattle.range_marks.specs.private.InternalViews.{Joins}
use Rattle.range_marks.proofs.JoinLemmas.{FirstAssign}
use Rattle.range_marks.proofs.internals.join_statements.Given as goal

-- what the statements so far put is joined
abbrev pub invariant-loop-at : goal.invariant-loop-at
invariant-loop-at l =
    Joins (flowchart_of l.plan).internals (FirstAssign (findings_in l.survey) l.name l.statements l.at) l.initial.ranges l.ranges
