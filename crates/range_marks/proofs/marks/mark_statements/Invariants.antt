use Rattle.std.proofs.Common.{◌≡◌, ◌++◌, drop}
use Rattle.range_marks.specs.RangeMarks.{walk_findings, statement_marks}
use Rattle.range_marks.proofs.marks.mark_statements.Given as goal

-- the marks so far, and those of the rest
abbrev pub invariant-loop-at : goal.invariant-loop-at
invariant-loop-at l =
    l.marks.items ++ statement_marks (walk_findings l.findings) l.name l.at (drop l.at l.statements)
    ≡ statement_marks (walk_findings l.findings) l.name 0 l.statements
