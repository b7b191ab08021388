use Rattle.std.proofs.Common.{subst}
use Rattle.chart_layout.specs.Drawn.{body_statements}
use Rattle.flowchart_methods.specs.Turns.{AddsInTurn}
use Rattle.flowchart_methods.specs.Captions.{statement_captions}
use Rattle.flowchart_methods.proofs.ChapterLemmas.{adds_chapter}
use Rattle.flowchart_methods.proofs.method.write_method.Goals as goal

pub returns : goal.returns
returns c =
    let chapter = c.args.chapter.now in
    adds_chapter chapter _ c.args.page.now c.write_method_head.new.page c.write_figure.new.page c.put.new.self
    c.in_ok-write_method_head.ensures
    (subst (λ cs. AddsInTurn
    (statement_captions chapter.text.name (record { conditions = cs; marks = chapter.marks.now }) (body_statements chapter.text.body))
    c.write_method_head.new.page c.write_figure.new.page) c.deref.ensures.value c.in_ok-write_figure.ensures)
    c.in_ok-put.ensures
