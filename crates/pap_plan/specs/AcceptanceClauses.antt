-- What the calls of acceptance promise.
use Rattle.std.specs.Prelude.{◌≡◌, ℕ, List, ⊤}
use Rattle.plan_text.specs.declared.fault.PlanFault.TheVariants as texts
use Rattle.plan_text.specs.Plans.{IsPlanFault}
use Rattle.pap_plan.specs.declared.refusal.PlanRefusal.{PlanRefusal}
use Rattle.pap_plan.specs.declared.refusal.PlanRefusal.TheVariants as refusals
use Rattle.pap_plan.specs.Acceptance.{IsAccepted}
use Rattle.pap_plan.specs.Plans.{Seen, meaning}

-- the texts are accepted, and the plan is that of them
pub record IsAcceptedAs (plan limits : List ℕ) (p : Seen) : Type 0 where
  pub plan_bytes : p.plan ≡ plan
  pub limits_bytes : p.limits ≡ limits
  pub accepted : IsAccepted plan limits (meaning p)

-- the text isn't a plan's, or memory ran out, which may be at any text
abbrev pub IsUnreadPlan : List ℕ → PlanRefusal → Type 0
IsUnreadPlan plan (refusals.Read fault) = IsPlanFault plan (texts.Read fault)
IsUnreadPlan plan (refusals.Expr spot fault) = IsPlanFault plan (texts.Expr spot fault)
IsUnreadPlan plan refusals.Memory = ⊤
IsUnreadPlan plan _ = ⊥
