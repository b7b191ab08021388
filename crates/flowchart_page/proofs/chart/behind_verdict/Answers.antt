use Rattle.std.proofs.Common.{subst}
use Rattle.std.specs.Prelude.{option_map}
use Rattle.std.specs.List.{flat_map}
use Rattle.pap_reader.specs.Trees.{tree_of}
use Rattle.flowchart_methods.specs.Chapters.{chapter_captions}
use Rattle.flowchart_page.specs.private.SourceViews.{table_source}
use Rattle.flowchart_page.specs.private.TableViews.{AddsTable}
use Rattle.flowchart_page.specs.Judged.{finding_of}
use Rattle.flowchart_page.specs.Runs.{run_parts}
use Rattle.flowchart_page.proofs.PageLemmas.{behind_of}
use Rattle.flowchart_page.proofs.chart.behind_verdict.Goals as goal

pub returns : goal.returns
returns c =
    let source = c.args.source in
    let tree = tree_of c.args.elements.now in
    behind_of (option_map run_parts c.args.source.run) (table_source c.args.source c.args.site.now) (tree_of c.args.elements.now)
    (flat_map chapter_captions c.args.chapters.now) _ _ _ c.in_ok-page.page c.append_run.new.page c.append.new.self
    c.write_declarations.new.page c.append-2.new.self c.write_methods.new.page c.append-3.new.self c.in_ok-append_run.ensures
    c.in_ok-append.ensures
    (subst (λ ts. AddsTable (record {
      notes = source.notes.now;
      limits = source.limits.now;
      finding = finding_of source.verdict.now;
      internals = ts;
      site = c.args.site.now;
    }) tree c.append.new.self c.write_declarations.new.page) c.internals.ensures c.in_ok-write_declarations.ensures)
    c.in_ok-append-2.ensures c.in_ok-write_methods.ensures
    c.in_ok-append-3.ensures
