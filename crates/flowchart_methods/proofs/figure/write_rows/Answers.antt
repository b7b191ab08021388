use Rattle.chart_layout.specs.Drawn.{row_statements}
use Rattle.flowchart_methods.specs.Captions.{statement_captions}
use Rattle.flowchart_methods.specs.private.Subjects.{beside_subject}
use Rattle.flowchart_methods.proofs.Laws.{adds_none}
use Rattle.flowchart_methods.proofs.TurnLemmas.{adds_more, captions_all}
use Rattle.flowchart_methods.proofs.figure.write_rows.Goals as goal

pub loop-row-init : goal.loop-row-init
loop-row-init c = adds_none c.args.page.now

pub loop-row-preserved : goal.loop-row-preserved
loop-row-preserved c =
    adds_more (λ r. statement_captions c.args.subject.name.now (beside_subject c.args.subject) (row_statements r)) c.args.rows.now c.loop-row.row-index c.row-item.result
    c.args.page.now c.loop-row.page c.write_row.new.page c.loop-row-test.true c.row-item.is c.loop-row.invariant
    c.in_ok-write_row.ensures

pub returns : goal.returns
returns c =
    captions_all c.args.subject.name.now (beside_subject c.args.subject) row_statements c.args.rows.now c.loop-row.row-index c.args.page.now c.loop-row.page
    c.loop-row-test.false c.loop-row.invariant
