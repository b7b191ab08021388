use Rattle.std.proofs.Common.{◌++◌, ap, ◌∙◌}
use Rattle.std.proofs.lemmas.Result.{on_ok_weaker}
use Rattle.coverage_text.specs.CoverageTexts.{share_lines}
use Rattle.coverage_text.proofs.text.write_totals.Goals as goal

pub returns : goal.returns
returns c =
    on_ok_weaker c.write_share.result
    (λ added. added ∙ ap (λ n. c.args.out.now.items ++ share_lines c.args.counts n) c.share_of-share.ensures)
    c.write_share.ensures
