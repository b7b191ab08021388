use Rattle.std.proofs.Common.{◌++◌, ap, ◌∙◌}
use Rattle.coverage_page.specs.CoverageParts.{coverage_head, coverage_lists}
use Rattle.coverage_page.proofs.part.coverage_part.Goals as goal

pub returns : goal.returns
returns c =
    let methods = c.args.methods.now in
    c.in_ok-write_lists.ensures
    ∙ ap (λ p. p ++ coverage_lists methods)
    (c.in_ok-write_head.ensures ∙ ap (λ q. q ++ coverage_head methods c.args.without c.args.runs) c.new-part.ensures)
