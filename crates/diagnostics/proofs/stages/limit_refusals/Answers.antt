use Rattle.std.proofs.Common.{◌≢◌, rules}
use Rattle.std.proofs.lemmas.Result.{IfOk-weaker}
use Rattle.pap_plan.specs.declared.refusal.PlanRefusal.TheVariants as refusals
use Rattle.pap_tree.specs.Flowchart.{flowchart_of}
use Rattle.diagnostics.specs.FurtherFaults.{AreLimitRefusals}
use Rattle.diagnostics.specs.private.StageViews.{AreFaultsBeside}
use Rattle.diagnostics.proofs.FurtherLemmas.{never_unread, beside_found}
use Rattle.diagnostics.proofs.stages.limit_refusals.Goals as goal

pub returns-in-Ok : goal.returns-in-Ok
returns-in-Ok c =
    let f = flowchart_of c.in-Ok.text in
    let limits = c.args.limits.now in
    IfOk-weaker c.faults_beside.result (λ all. AreFaultsBeside f limits all.items) (λ all. AreLimitRefusals c.args.plan.now limits all.items)
    (λ all h. beside_found c.args.plan.now limits f all.items c.in-Ok.ensures.read h) c.faults_beside.ensures

pub unreachable-requires : goal.unreachable-requires
unreachable-requires c =
    let other : c.in-Err.field-0 ≢ refusals.Memory = search rules in
    never_unread c.args.plan.now c.in-Err.field-0 c.requires.plan other c.in-Err.ensures.refused
