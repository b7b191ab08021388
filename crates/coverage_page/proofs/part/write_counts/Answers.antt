use Rattle.std.proofs.Common.{◌++◌, ap, ◌∙◌}
use Rattle.std.proofs.lemmas.Result.{on_ok_weaker}
use Rattle.coverage_page.specs.CoverageParts.{share_sentence}
use Rattle.coverage_page.proofs.part.write_counts.Goals as goal

pub returns : goal.returns
returns c =
    on_ok_weaker c.write_share.result
    (λ added. added ∙ ap (λ n. c.args.part.now ++ share_sentence c.args.counts n) c.share_of-share.ensures) c.write_share.ensures
