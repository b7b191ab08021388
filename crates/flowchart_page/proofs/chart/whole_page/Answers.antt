use Rattle.std.proofs.Common.{subst}
use Rattle.std.specs.Prelude.{option_map}
use Rattle.std.specs.List.{flat_map}
use Rattle.std.proofs.lemmas.Result.{IfOk-weaker}
use Rattle.pap_reader.specs.Trees.{tree_of}
use Rattle.flowchart_methods.specs.Chapters.{chapter_captions}
use Rattle.flowchart_page.specs.private.PageViews.{HasTable, IsAround}
use Rattle.flowchart_page.specs.private.SourceViews.{table_source}
use Rattle.flowchart_page.specs.private.VerdictViews.{verdict_text}
use Rattle.flowchart_page.specs.Runs.{run_parts}
use Rattle.flowchart_page.proofs.PageLemmas.{table_page}
use Rattle.flowchart_page.proofs.chart.whole_page.Goals as goal

pub returns : goal.returns
returns c =
    let run = option_map run_parts c.args.source.run in
    let source = table_source c.args.source c.args.site.now in
    let tree = tree_of c.args.elements.now in
    let verdict = verdict_text c.args.source.verdict.now c.args.site.now in
    let captions = flat_map chapter_captions c.args.chapters.now in
    IfOk-weaker c.page_of.result _ (λ page. HasTable run source tree captions verdict page.items)
    (λ page around. table_page run source tree captions verdict c.in_ok-rest.rest page.items c.in_ok-rest.ensures
    (subst (λ s. IsAround s verdict c.in_ok-rest.rest page.items) c.head_of.ensures around))
    c.page_of.ensures
