use Rattle.std.proofs.Common.{subst}
use Rattle.std.specs.Prelude.{option_map}
use Rattle.std.specs.List.{flat_map}
use Rattle.std.proofs.lemmas.Result.{IfOk-weaker}
use Rattle.pap_reader.specs.Trees.{tree_of}
use Rattle.flowchart_methods.specs.Sites.{named_statement}
use Rattle.flowchart_methods.specs.Captions.{AreCaptions, methods_of}
use Rattle.flowchart_methods.specs.Chapters.{chapter_captions}
use Rattle.flowchart_page.specs.private.PageViews.{ShowsRead, HasTable}
use Rattle.flowchart_page.specs.private.SourceViews.{table_source}
use Rattle.flowchart_page.specs.Judged.{finding_of}
use Rattle.flowchart_page.specs.private.VerdictViews.{verdict_text}
use Rattle.flowchart_page.specs.Runs.{run_parts}
use Rattle.flowchart_page.proofs.PageLemmas.{site_page}
use Rattle.flowchart_page.proofs.chart.plan_page.Goals as goal

pub returns : goal.returns
returns c =
    let finding = finding_of c.args.source.verdict.now in
    let verdict = verdict_text c.args.source.verdict.now in
    let run = option_map run_parts c.args.source.run in
    let notes = c.args.source.notes.now in
    let limits = c.args.source.limits.now in
    let site = c.site_shown-site.result in
    let tree = tree_of c.args.elements.now in
    IfOk-weaker c.whole_page.result _ (λ page. ShowsRead run notes limits finding verdict tree page.items)
    (λ page has. site_page run finding verdict notes limits site (flat_map chapter_captions c.in_ok-chapters.chapters.items) tree
    page.items c.site_shown-site.ensures.statement
    (subst (λ l. AreCaptions (named_statement site) l (methods_of tree) (flat_map chapter_captions c.in_ok-chapters.chapters.items))
    c.marks-marks.ensures c.in_ok-chapters.ensures.captions)
    (subst (λ cs. HasTable run (table_source c.args.source site) tree (flat_map chapter_captions cs) (verdict site) page.items)
    c.deref.ensures.value has))
    c.whole_page.ensures
