use Rattle.std.proofs.Common.{take}
use Rattle.std.specs.List.{flat_map}
use Rattle.chart_layout.specs.Drawn.{row_statements}
use Rattle.flowchart_methods.specs.Turns.{AddsInTurn}
use Rattle.flowchart_methods.specs.Captions.{statement_captions}
use Rattle.flowchart_methods.specs.private.Subjects.{beside_subject}
use Rattle.flowchart_methods.proofs.figure.write_rows.Given as goal

-- the statements of the rows so far have their captions
abbrev pub invariant-loop-row : goal.invariant-loop-row
invariant-loop-row l =
    AddsInTurn (flat_map (λ r. statement_captions l.subject.name.now (beside_subject l.subject) (row_statements r)) (take l.row-index l.rows))
    l.initial.page l.page
