use Rattle.std.proofs.Common.{◌≡◌, ◌≢◌, map, rules}
use Rattle.std.proofs.lemmas.Result.{IfOk-weaker}
use Rattle.pap_plan.specs.declared.refusal.PlanRefusal.TheVariants as refusals
use Rattle.pap_tree.specs.Flowchart.{flowchart_of}
use Rattle.pap_types.specs.AllFaults.{type_faults}
use Rattle.diagnostics.specs.FurtherFaults.{AreTypeRefusals}
use Rattle.diagnostics.proofs.FurtherLemmas.{never_unread, types_found}
use Rattle.diagnostics.proofs.stages.type_refusals.Goals as goal

pub returns-in-Ok : goal.returns-in-Ok
returns-in-Ok c =
    let f = flowchart_of c.in-Ok.text in
    IfOk-weaker c.type_refusals_of.result (λ all. all.items ≡ map refusals.Types (type_faults f)) (λ all. AreTypeRefusals c.args.plan.now all.items)
    (λ all h. types_found c.args.plan.now f all.items c.in-Ok.ensures.read h) c.type_refusals_of.ensures

pub unreachable-requires : goal.unreachable-requires
unreachable-requires c =
    let other : c.in-Err.field-0 ≢ refusals.Memory = search rules in
    never_unread c.args.plan.now c.in-Err.field-0 c.requires other c.in-Err.ensures.refused
