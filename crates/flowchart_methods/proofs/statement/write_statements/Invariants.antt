use Rattle.std.proofs.Common.{take, ◌∷◌, []}
use Rattle.std.specs.List.{flat_map}
use Rattle.chart_layout.specs.Drawn.{drawn_statement}
use Rattle.flowchart_methods.specs.Turns.{AddsInTurn}
use Rattle.flowchart_methods.specs.Captions.{statement_captions}
use Rattle.flowchart_methods.specs.private.Subjects.{beside_subject}
use Rattle.flowchart_methods.proofs.statement.write_statements.Given as goal

-- the statements so far have their captions
abbrev pub invariant-loop-statement : goal.invariant-loop-statement
invariant-loop-statement l =
    AddsInTurn (flat_map (λ s. statement_captions l.subject.name.now (beside_subject l.subject) (drawn_statement s ∷ [])) (take l.statement-index l.row))
    l.initial.page l.page
