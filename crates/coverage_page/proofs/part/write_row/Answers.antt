use Rattle.std.proofs.Common.{◌++◌, ap, ◌∙◌}
use Rattle.std.proofs.lemmas.Result.{on_ok_weaker}
use Rattle.coverage_text.specs.CoverageItems.{item_counts}
use Rattle.coverage_page.specs.CoverageParts.{counts_row}
use Rattle.coverage_page.proofs.part.write_row.Goals as goal

pub returns : goal.returns
returns c =
    let old = c.args.part.now in
    let method = c.args.method.now in
    on_ok_weaker c.put_row.result
    (λ e. e ∙ ap (λ n. old ++ counts_row n c.of-counts.result) c.name-name.ensures
    ∙ ap (λ k. old ++ counts_row method.name k) (c.of-counts.ensures.counts ∙ ap (λ is. item_counts is) c.items-items.ensures))
    c.put_row.ensures
