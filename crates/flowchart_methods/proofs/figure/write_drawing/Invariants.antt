use Rattle.std.proofs.Common.{take}
use Rattle.std.specs.List.{flat_map}
use Rattle.chart_layout.specs.Drawn.{part_statements}
use Rattle.flowchart_methods.specs.Turns.{AddsInTurn}
use Rattle.flowchart_methods.specs.Captions.{statement_captions}
use Rattle.flowchart_methods.specs.private.Subjects.{beside_subject}
use Rattle.flowchart_methods.proofs.figure.write_drawing.Given as goal

-- the statements of the parts so far have their captions
abbrev pub invariant-loop-i : goal.invariant-loop-i
invariant-loop-i l =
    AddsInTurn (flat_map (λ p. statement_captions l.subject.name.now (beside_subject l.subject) (part_statements p)) (take l.i l.part-items))
    l.initial.page l.page
