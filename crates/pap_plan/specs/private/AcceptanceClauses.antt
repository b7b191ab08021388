-- What private contracts cite beside the definitions of AcceptanceClauses.
use Rattle.std.specs.Prelude.{◌≡◌, ℕ, List, Some}
use Rattle.pap_tree.specs.Flowchart.{Flowchart}
use Rattle.plan_text.specs.Plans.{IsPlan}
use Rattle.pap_types.specs.Checks.{type_fault}
use Rattle.pap_plan.specs.declared.refusal.PlanRefusal.{PlanRefusal}
use Rattle.pap_plan.specs.declared.refusal.PlanRefusal.TheVariants as refusals
use Rattle.pap_plan.specs.AcceptanceClauses.{IsUnreadPlan}

-- the same, or it is a plan's whose names and kinds aren't right
abbrev pub IsUntyped : List ℕ → PlanRefusal → Type 0
IsUntyped plan (refusals.Types fault) = (f : Flowchart) × IsPlan plan f × (type_fault f ≡ Some fault)
IsUntyped plan r = IsUnreadPlan plan r
