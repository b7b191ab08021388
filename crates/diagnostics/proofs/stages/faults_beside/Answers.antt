use Rattle.std.proofs.Common.{◌≡◌, ◌≢◌, rules}
use Rattle.std.proofs.lemmas.Result.{IfOk-weaker}
use Rattle.std.specs.declared.alloc.AllocError.{AllocError}
use Rattle.limits_file.specs.declared.fault.LimitsFault.TheVariants as files
use Rattle.pap_plan.specs.LimitFaults.{limit_faults}
use Rattle.pap_tree.specs.Flowchart.{flowchart_of}
use Rattle.diagnostics.specs.private.StageViews.{AreFaultsBeside}
use Rattle.diagnostics.proofs.FurtherLemmas.{never_misread}
use Rattle.diagnostics.proofs.stages.faults_beside.Goals as goal

pub returns-in-Ok : goal.returns-in-Ok
returns-in-Ok c =
    let f = flowchart_of c.args.plan.now in
    let l = c.in-Ok.ranges in
    IfOk-weaker c.limit_faults.result (λ all. all.items ≡ limit_faults f l) (λ all. AreFaultsBeside f c.args.limits.now all.items)
    (λ all h. (l, c.in-Ok.ensures.limits, h)) c.limit_faults.ensures

pub unreachable-requires : goal.unreachable-requires
unreachable-requires c =
    let other : (e : AllocError) → c.in-Err.field-0 ≢ files.Memory e = λ e. search rules in
    let says = c.read_limits.ensures in
    never_misread c.args.limits.now c.read_limits.result c.in-Err.field-0 c.requires c.in-Err.is other says.long.0 says.toml says.key says.bound
