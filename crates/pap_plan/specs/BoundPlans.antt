-- What is promised of a plan that passes all stages of acceptance but that of the ranges of its values.
use Rattle.std.specs.Prelude.{ℕ, List, All, ⊤}
use Rattle.pap_tree.specs.Flowchart.{flowchart_of}
use Rattle.limits_file.specs.Limits.{HasSoundBounds}
use Rattle.call_order.specs.Orders.{IsOrdered}
use Rattle.interval_walk.specs.Admission.{HaveLimits}
use Rattle.pap_plan.specs.declared.bound.BoundPlan.{BoundPlan}
use Rattle.pap_plan.specs.declared.refusal.PlanRefusal.{PlanRefusal}
use Rattle.pap_plan.specs.declared.refusal.PlanRefusal.TheVariants as refusals
use Rattle.pap_plan.specs.Acceptance.{HasBindings, IsRefusedOrMemory}

-- the texts pass these stages, and the plan, the order of its methods and the limits are theirs
pub record IsBoundPlan (plan limits : List ℕ) (b : BoundPlan) : Type 0 where
  pub passed : HasBindings plan limits (flowchart_of b.typed) b.limits
  pub ordered : IsOrdered (flowchart_of b.typed) b.order.items
  pub limited : HaveLimits (flowchart_of b.typed) b.limits
  pub sound : All HasSoundBounds b.limits.inputs

-- a refusal that isn't one by the ranges of values
abbrev pub IsBeforeRanges : PlanRefusal → Type 0
IsBeforeRanges (refusals.Range fault) = ⊥
IsBeforeRanges r = ⊤

-- the texts are refused so before the ranges are judged, or memory ran out, which may be at any texts
pub record IsUnboundOrMemory (plan limits : List ℕ) (r : PlanRefusal) : Type 0 where
  pub refused : IsRefusedOrMemory plan limits r
  pub early : IsBeforeRanges r
