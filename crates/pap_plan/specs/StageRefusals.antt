-- What an inner fault becomes, and what a plan keeps.
use Rattle.std.specs.Prelude.{◌≡◌, ℕ, List}
use Rattle.pap_tree.specs.Flowchart.{flowchart_of}
use Rattle.limits_file.specs.declared.slots.Slot.{Slot}
use Rattle.pap_types.specs.Meaning.{bound_of}
use Rattle.pap_compiler.specs.CodeDecisions.{compiled}
use Rattle.pap_compiler.specs.Correct.{IsCodeOf}
use Rattle.pap_plan.specs.Acceptance.{IsAccepted}
use Rattle.pap_plan.specs.Inputs.{AreSlots}
use Rattle.pap_plan.specs.Plans.{Seen, meaning}
use Rattle.limits_file.specs.declared.fault.LimitsFault.{LimitsFault}
use Rattle.limits_file.specs.declared.fault.LimitsFault.TheVariants as limits
use Rattle.plan_text.specs.declared.fault.PlanFault.{PlanFault}
use Rattle.plan_text.specs.declared.fault.PlanFault.TheVariants as texts
use Rattle.pap_types.specs.declared.fault.TypeFault.{TypeFault}
use Rattle.pap_types.specs.declared.fault.TypeFault.TheVariants as types
use Rattle.call_order.specs.declared.fault.OrderFault.{OrderFault}
use Rattle.call_order.specs.declared.fault.OrderFault.TheVariants as orders
use Rattle.interval_analysis.specs.declared.fault.RangeFault.{RangeFault}
use Rattle.interval_analysis.specs.declared.fault.RangeFault.TheVariants as ranges
use Rattle.pap_plan.specs.declared.refusal.PlanRefusal.{PlanRefusal}
use Rattle.pap_plan.specs.declared.refusal.PlanRefusal.TheVariants as refusals

-- a fault of the plan's text, as a refusal
abbrev pub text_refusal : PlanFault → PlanRefusal
text_refusal (texts.Read f) = refusals.Read f
text_refusal (texts.Expr spot f) = refusals.Expr spot f
text_refusal texts.Memory = refusals.Memory

-- a fault of names and kinds, as a refusal
abbrev pub type_refusal : TypeFault → PlanRefusal
type_refusal (types.Memory e) = refusals.Memory
type_refusal f = refusals.Types f

-- a fault of the methods' order, as a refusal
abbrev pub order_refusal : OrderFault → PlanRefusal
order_refusal (orders.Memory e) = refusals.Memory
order_refusal f = refusals.Order f

-- a fault of the range file, as a refusal
abbrev pub limits_refusal : LimitsFault → PlanRefusal
limits_refusal (limits.Memory e) = refusals.Memory
limits_refusal f = refusals.Limits f

-- a fault of the walk over ranges, as a refusal
abbrev pub range_refusal : RangeFault → PlanRefusal
range_refusal (ranges.Memory e) = refusals.Memory
range_refusal f = refusals.Range f

-- what a plan keeps beside what contracts see of it
pub record IsKeptPlan (p : Seen) (most : ℕ) (inputs : List Slot) : Type 0 where
  pub accepted : IsAccepted p.plan p.limits (meaning p)
  pub bound : most ≡ bound_of (flowchart_of p.text)
  pub slots : AreSlots p.ranges (flowchart_of p.text).inputs inputs
  pub code : IsCodeOf (flowchart_of p.text) p.code
  pub compiled : p.code ≡ compiled (flowchart_of p.text)
