use Rattle.std.proofs.Common.{◌∷◌, drop}
use Rattle.std.proofs.lemmas.Result.{IfOk-weaker}
use Rattle.diagnostics.specs.FurtherFaults.{AreAllFaults, AreLimitRefusals, AreTextRefusals, AreTypeRefusals}
use Rattle.diagnostics.proofs.FurtherLemmas.{HaveLimitLaws, all_bindings, all_kinds, all_names, all_texts, all_types, bindings_read, kinds_read, names_read, types_read}
use Rattle.diagnostics.proofs.stages.stage_faults.Goals as goal

pub type_refusals-requires : goal.type_refusals-requires
type_refusals-requires c =
    types_read c.args.plan.now c.args.limits.now c.args.refusal.now c.in-Types.field-0 c.in-Types.is c.requires

pub limit_refusals-requires-clause-plan : goal.limit_refusals-requires-clause-plan
limit_refusals-requires-clause-plan c =
    (names_read c.args.plan.now c.args.limits.now c.args.refusal.now c.in-LimitName.name c.in-LimitName.is c.requires).0

pub limit_refusals-requires-clause-limits : goal.limit_refusals-requires-clause-limits
limit_refusals-requires-clause-limits c =
    (names_read c.args.plan.now c.args.limits.now c.args.refusal.now c.in-LimitName.name c.in-LimitName.is c.requires).1

pub limit_refusals-requires-in-LimitKind-clause-plan : goal.limit_refusals-requires-in-LimitKind-clause-plan
limit_refusals-requires-in-LimitKind-clause-plan c =
    (kinds_read c.args.plan.now c.args.limits.now c.args.refusal.now c.in-LimitKind.name c.in-LimitKind.is c.requires).0

pub limit_refusals-requires-in-LimitKind-clause-limits : goal.limit_refusals-requires-in-LimitKind-clause-limits
limit_refusals-requires-in-LimitKind-clause-limits c =
    (kinds_read c.args.plan.now c.args.limits.now c.args.refusal.now c.in-LimitKind.name c.in-LimitKind.is c.requires).1

pub limit_refusals-requires-in-Bind-clause-plan : goal.limit_refusals-requires-in-Bind-clause-plan
limit_refusals-requires-in-Bind-clause-plan c =
    (bindings_read c.args.plan.now c.args.limits.now c.args.refusal.now c.in-Bind.name c.in-Bind.is c.requires).0

pub limit_refusals-requires-in-Bind-clause-limits : goal.limit_refusals-requires-in-Bind-clause-limits
limit_refusals-requires-in-Bind-clause-limits c =
    (bindings_read c.args.plan.now c.args.limits.now c.args.refusal.now c.in-Bind.name c.in-Bind.is c.requires).1

pub returns-in-Expr : goal.returns-in-Expr
returns-in-Expr c =
    let plan = c.args.plan.now in
    let limits = c.args.limits.now in
    let r = c.args.refusal.now in
    IfOk-weaker c.text_refusals.result (λ all. AreTextRefusals plan all.items) (λ all. AreAllFaults plan limits r (r ∷ drop 1 all.items))
    (λ all h. all_texts plan limits r c.in-Expr.spot c.in-Expr.fault c.in-Expr.is c.requires all.items h) c.text_refusals.ensures

pub returns-in-Types : goal.returns-in-Types
returns-in-Types c =
    let plan = c.args.plan.now in
    let limits = c.args.limits.now in
    let r = c.args.refusal.now in
    IfOk-weaker c.type_refusals.result (λ all. AreTypeRefusals plan all.items) (λ all. AreAllFaults plan limits r (r ∷ drop 1 all.items))
    (λ all h. all_types c.type_fault_laws.ensures.first plan limits r c.in-Types.field-0 c.in-Types.is c.requires all.items h) c.type_refusals.ensures

pub returns-in-LimitName : goal.returns-in-LimitName
returns-in-LimitName c =
    let plan = c.args.plan.now in
    let limits = c.args.limits.now in
    let r = c.args.refusal.now in
    let laws : HaveLimitLaws = (c.limit_fault_laws.ensures.none, c.limit_fault_laws.ensures.first) in
    IfOk-weaker c.limit_refusals.result (λ all. AreLimitRefusals plan limits all.items) (λ all. AreAllFaults plan limits r (r ∷ drop 1 all.items))
    (λ all h. all_names laws plan limits r c.in-LimitName.name c.in-LimitName.is c.requires all.items h) c.limit_refusals.ensures

pub returns-in-LimitKind : goal.returns-in-LimitKind
returns-in-LimitKind c =
    let plan = c.args.plan.now in
    let limits = c.args.limits.now in
    let r = c.args.refusal.now in
    let laws : HaveLimitLaws = (c.limit_fault_laws.ensures.none, c.limit_fault_laws.ensures.first) in
    IfOk-weaker c.limit_refusals-in-LimitKind.result (λ all. AreLimitRefusals plan limits all.items) (λ all. AreAllFaults plan limits r (r ∷ drop 1 all.items))
    (λ all h. all_kinds laws plan limits r c.in-LimitKind.name c.in-LimitKind.is c.requires all.items h) c.limit_refusals-in-LimitKind.ensures

pub returns-in-Bind : goal.returns-in-Bind
returns-in-Bind c =
    let plan = c.args.plan.now in
    let limits = c.args.limits.now in
    let r = c.args.refusal.now in
    let laws : HaveLimitLaws = (c.limit_fault_laws.ensures.none, c.limit_fault_laws.ensures.first) in
    IfOk-weaker c.limit_refusals-in-Bind.result (λ all. AreLimitRefusals plan limits all.items) (λ all. AreAllFaults plan limits r (r ∷ drop 1 all.items))
    (λ all h. all_bindings laws plan limits r c.in-Bind.name c.in-Bind.is c.requires all.items h) c.limit_refusals-in-Bind.ensures
