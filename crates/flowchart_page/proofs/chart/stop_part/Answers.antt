use Rattle.std.proofs.Common.{◌++◌, ap, ◌∙◌}
use Rattle.flowchart_page.specs.Runs.{stop_text}
use Rattle.flowchart_page.proofs.chart.stop_part.Goals as goal

pub returns : goal.returns
returns c =
    c.in_ok-put_stop.ensures
    ∙ ap (λ p. p ++ stop_text c.args.method c.from-place.result) c.new-part.ensures
    ∙ ap (λ n. stop_text c.args.method n) c.from-place.ensures
