use Rattle.std.proofs.Common.{◌∷◌, [], subst}
use Rattle.chart_layout.specs.Drawn.{drawn_statement}
use Rattle.flowchart_methods.specs.Turns.{AddsInTurn}
use Rattle.flowchart_methods.specs.Captions.{statement_captions}
use Rattle.flowchart_methods.specs.private.Subjects.{beside_subject}
use Rattle.flowchart_methods.proofs.Laws.{adds_none}
use Rattle.flowchart_methods.proofs.TurnLemmas.{adds_more, captions_all, flat_map_each}
use Rattle.flowchart_methods.proofs.statement.write_statements.Goals as goal

pub loop-statement-init : goal.loop-statement-init
loop-statement-init c = adds_none c.args.page.now

pub loop-statement-preserved : goal.loop-statement-preserved
loop-statement-preserved c =
    adds_more (λ s. statement_captions c.args.subject.name.now (beside_subject c.args.subject) (drawn_statement s ∷ [])) c.args.row.now c.loop-statement.statement-index
    c.statement-item.result c.args.page.now c.loop-statement.page c.write_statement.new.page c.loop-statement-test.true c.statement-item.is
    c.loop-statement.invariant c.in_ok-write_statement.ensures

pub returns : goal.returns
returns c =
    subst (λ ds. AddsInTurn (statement_captions c.args.subject.name.now (beside_subject c.args.subject) ds) c.args.page.now c.loop-statement.page)
    (flat_map_each drawn_statement c.args.row.now)
    (captions_all c.args.subject.name.now (beside_subject c.args.subject) (λ s. drawn_statement s ∷ []) c.args.row.now c.loop-statement.statement-index c.args.page.now
    c.loop-statement.page c.loop-statement-test.false c.loop-statement.invariant)
