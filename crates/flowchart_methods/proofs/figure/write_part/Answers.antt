use Rattle.std.proofs.Common.{subst}
use Rattle.std.specs.List.{flat_map}
use Rattle.chart_layout.specs.Drawn.{row_statements}
use Rattle.flowchart_methods.specs.Turns.{AddsInTurn}
use Rattle.flowchart_methods.specs.Captions.{statement_captions}
use Rattle.flowchart_methods.specs.private.Subjects.{beside_subject}
use Rattle.flowchart_methods.proofs.TurnLemmas.{adds_inside}
use Rattle.flowchart_methods.proofs.figure.write_part.Goals as goal

pub returns : goal.returns
returns c =
    subst (λ rs. AddsInTurn (statement_captions c.args.subject.name.now (beside_subject c.args.subject) (flat_map row_statements rs)) c.args.page.now c.put.new.self)
    c.deref.ensures.value
    (adds_inside (statement_captions c.args.subject.name.now (beside_subject c.args.subject) (flat_map row_statements c.deref.result.now)) _ _ c.args.page.now
    c.append-2.new.self c.write_rows.new.page c.put.new.self c.in_ok-append.ensures c.in_ok-write_rows.ensures c.in_ok-put.ensures)
