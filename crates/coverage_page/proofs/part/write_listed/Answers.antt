use Rattle.std.proofs.Common.{◌++◌, ap, ◌∙◌}
use Rattle.std.proofs.lemmas.Result.{on_ok_weaker}
use Rattle.coverage_page.specs.CoverageParts.{entry_list}
use Rattle.coverage_page.proofs.part.write_listed.Goals as goal

pub returns : goal.returns
returns c =
    on_ok_weaker c.write_list.result (λ e. e ∙ ap (λ l. c.args.part.now ++ entry_list l) c.in_ok-entries.ensures) c.write_list.ensures
