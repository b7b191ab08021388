use Rattle.std.proofs.Common.{subst}
use Rattle.chart_layout.specs.Drawn.{part_statements, drawing_statements}
use Rattle.flowchart_methods.specs.Turns.{AddsInTurn}
use Rattle.flowchart_methods.specs.Captions.{statement_captions}
use Rattle.flowchart_methods.specs.private.Subjects.{beside_subject}
use Rattle.flowchart_methods.proofs.Laws.{adds_none}
use Rattle.flowchart_methods.proofs.TurnLemmas.{adds_more, captions_all}
use Rattle.flowchart_methods.proofs.figure.write_drawing.Goals as goal

pub loop-i-init : goal.loop-i-init
loop-i-init c = adds_none c.args.page.now

pub loop-i-preserved : goal.loop-i-preserved
loop-i-preserved c =
    adds_more (λ p. statement_captions c.args.subject.name.now (beside_subject c.args.subject) (part_statements p)) c.deref-part-items.result.now c.loop-i.i
    c.part-item.result c.args.page.now c.loop-i.page c.write_part.new.page c.loop-i-test.true c.part-item.is c.loop-i.invariant
    c.in_ok-write_part.ensures

pub returns : goal.returns
returns c =
    subst (λ ps. AddsInTurn (statement_captions c.args.subject.name.now (beside_subject c.args.subject) (drawing_statements ps)) c.args.page.now c.loop-i.page)
    c.deref-part-items.ensures.value
    (captions_all c.args.subject.name.now (beside_subject c.args.subject) part_statements c.deref-part-items.result.now c.loop-i.i c.args.page.now c.loop-i.page
    c.loop-i-test.false c.loop-i.invariant)
