-- Refusals before the ranges of a plan's values are judged.
use Rattle.std.proofs.Common.{ℕ, List}
use Rattle.pap_tree.specs.Flowchart.{Flowchart}
use Rattle.limits_file.specs.declared.limits.Limits.{Limits}
use Rattle.limits_file.specs.declared.fault.LimitsFault.{LimitsFault}
use Rattle.limits_file.specs.declared.fault.LimitsFault.TheVariants as limits
use Rattle.call_order.specs.declared.fault.OrderFault.{OrderFault}
use Rattle.call_order.specs.declared.fault.OrderFault.TheVariants as orders
use Rattle.pap_plan.specs.declared.refusal.PlanRefusal.{PlanRefusal}
use Rattle.pap_plan.specs.declared.refusal.PlanRefusal.TheVariants as refusals
use Rattle.pap_plan.specs.BoundPlans.{IsBeforeRanges, IsUnboundOrMemory}
use Rattle.pap_plan.specs.StageRefusals.{order_refusal, limits_refusal}
use Rattle.pap_plan.specs.Bindings.{IsUnmatched}
use Rattle.pap_plan.specs.private.AcceptanceClauses.{IsUntyped}

pub order_early : (e : OrderFault) → IsBeforeRanges (order_refusal e)
order_early (orders.Cycle method) = tt
order_early (orders.Chain method) = tt
order_early (orders.TooLong count) = tt
order_early (orders.Memory e) = tt

pub limits_early : (e : LimitsFault) → IsBeforeRanges (limits_refusal e)
limits_early limits.Toml = tt
limits_early (limits.Key label) = tt
limits_early (limits.Bound label) = tt
limits_early limits.LimitsLong = tt
limits_early (limits.Memory e) = tt

pub untyped_unbound : (plan limits : List ℕ) (r : PlanRefusal) → IsUntyped plan r → IsUnboundOrMemory plan limits r
untyped_unbound plan limits (refusals.Range fault) h = absurd h
untyped_unbound plan limits (refusals.Read fault) h = record { refused = h; early = tt }
untyped_unbound plan limits (refusals.Expr spot fault) h = record { refused = h; early = tt }
untyped_unbound plan limits (refusals.Types fault) h = record { refused = h; early = tt }
untyped_unbound plan limits (refusals.Order fault) h = absurd h
untyped_unbound plan limits (refusals.Limits fault) h = absurd h
untyped_unbound plan limits (refusals.LimitName name) h = absurd h
untyped_unbound plan limits (refusals.LimitKind name) h = absurd h
untyped_unbound plan limits (refusals.Bind name) h = absurd h
untyped_unbound plan limits refusals.Memory h = record { refused = tt; early = tt }

pub unmatched_early : (f : Flowchart) (l : Limits) (r : PlanRefusal) → IsUnmatched f l r → IsBeforeRanges r
unmatched_early f l (refusals.Range fault) h = absurd h
unmatched_early f l (refusals.Read fault) h = tt
unmatched_early f l (refusals.Expr spot fault) h = tt
unmatched_early f l (refusals.Types fault) h = tt
unmatched_early f l (refusals.Order fault) h = tt
unmatched_early f l (refusals.Limits fault) h = tt
unmatched_early f l (refusals.LimitName name) h = tt
unmatched_early f l (refusals.LimitKind name) h = tt
unmatched_early f l (refusals.Bind name) h = tt
unmatched_early f l refusals.Memory h = tt
