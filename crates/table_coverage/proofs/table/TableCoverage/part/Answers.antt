use Rattle.std.proofs.Common.{◌≡◌, ◌∙◌, ap}
use Rattle.std.proofs.lemmas.Result.{IfOk-weaker}
use Rattle.coverage_page.specs.CoverageParts.{coverage_part}
use Rattle.table_coverage.specs.TableCoverages.{RunsFound, found_part}
use Rattle.table_coverage.proofs.table.TableCoverage.part.Goals as goal

pub returns : goal.returns
returns c =
    let inside = c.self.inside in
    IfOk-weaker c.coverage_part.result (λ part. part ≡ coverage_part c.deref.result.now inside.without inside.runs)
    (λ part. part ≡ found_part c.args.self.now)
    (λ part is. is ∙ ap (λ ms. coverage_part ms inside.without inside.runs) c.deref.ensures.value
    ∙ ap (λ (found : RunsFound). found_part found) c.self.view_is)
    c.coverage_part.ensures
