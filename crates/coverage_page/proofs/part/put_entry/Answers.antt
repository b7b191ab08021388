use Rattle.std.proofs.Common.{◌++◌, ap, ◌∙◌}
use Rattle.std.proofs.lemmas.Result.{on_ok_weaker}
use Rattle.coverage_page.specs.CoverageParts.{place_entry}
use Rattle.coverage_page.proofs.part.put_entry.Goals as goal

pub returns : goal.returns
returns c =
    on_ok_weaker c.put.result
    (λ is. is ∙ ap (λ n. c.args.entries.now ++ place_entry c.args.name n c.args.words.now) c.from-statement.ensures) c.put.ensures
