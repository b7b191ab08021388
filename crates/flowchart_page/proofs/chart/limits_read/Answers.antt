use Rattle.std.proofs.Common.{ap, rules}
use Rattle.std.specs.Prelude.{Err}
use Rattle.flowchart_page.proofs.PageLemmas.{no_limits}
use Rattle.flowchart_page.proofs.chart.limits_read.Goals as goal

pub returns-in-Err : goal.returns-in-Err
returns-in-Err c =
    let says = c.in-Err.ensures in
    no_limits c.args.bytes.now c.in-Err.field-0 (search rules) (λ h. says.long.0 (ap Err h)) (λ h. says.toml (ap Err h))
    (λ label h. says.key label (ap Err h)) (λ label h. says.bound label (ap Err h))
