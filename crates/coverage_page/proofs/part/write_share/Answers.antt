use Rattle.std.proofs.Common.{◌++◌, ap, ◌∙◌}
use Rattle.std.proofs.lemmas.Result.{on_ok_weaker}
use Rattle.coverage_page.specs.CoverageParts.{share_sentence}
use Rattle.coverage_page.proofs.part.write_share.Goals as goal

pub returns : goal.returns
returns c =
    on_ok_weaker c.put.result
    (λ is. is ∙ ap (λ n. c.args.part.now ++ share_sentence c.args.counts n) c.from-share.ensures) c.put.ensures
