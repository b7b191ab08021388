-- What is found of a plan whose names and kinds are right.
use Rattle.std.specs.Prelude.{ℕ, List, Ok}
use Rattle.pap_tree.specs.Flowchart.{Flowchart}
use Rattle.limits_file.specs.RangeFiles.{FileSays}
use Rattle.call_order.specs.Orders.{IsOrdered}
use Rattle.pap_plan.specs.declared.bound.BoundLimits.{BoundLimits}
use Rattle.pap_plan.specs.declared.refusal.PlanRefusal.{PlanRefusal}
use Rattle.pap_plan.specs.Acceptance.{IsTypedPlan, IsRefusedOrMemory}
use Rattle.pap_plan.specs.Bindings.{AreMatched}

-- the order of the methods, and the limits of the range file, which are those of the plan
pub record HasBoundLimits (limits : List ℕ) (f : Flowchart) (b : BoundLimits) : Type 0 where
  pub ordered : IsOrdered f b.order.items
  pub file : FileSays limits (Ok b.limits)
  pub matched : AreMatched f b.limits

-- whatever the bytes of a plan of this flowchart are, the texts are refused
abbrev pub IsMisjudged : List ℕ → Flowchart → PlanRefusal → Type 0
IsMisjudged limits f r = (plan : List ℕ) → IsTypedPlan plan f → IsRefusedOrMemory plan limits r
