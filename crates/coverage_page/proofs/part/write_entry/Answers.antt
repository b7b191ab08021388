use Rattle.std.proofs.Common.{◌++◌, ap, ◌∙◌}
use Rattle.std.proofs.lemmas.Result.{on_ok_weaker}
use Rattle.coverage_page.specs.CoverageParts.{place_entry}
use Rattle.coverage_page.proofs.part.write_entry.Goals as goal

pub returns : goal.returns
returns c =
    let old = c.args.entries.now in
    let item = c.args.item.now in
    on_ok_weaker c.put_entry.result
    (λ e. e ∙ ap (λ n. old ++ place_entry c.args.name n c.words-words.result.now) c.statement-statement.ensures
    ∙ ap (λ t. old ++ place_entry c.args.name item.statement t) c.words-words.ensures)
    c.put_entry.ensures
