-- The answers on a search from what the calls below promise.
use Rattle.std.proofs.Common.{◌≡◌, ℕ, List, inl, inr}
use Rattle.std.specs.Prelude.{Option}
use Rattle.pap_tree.specs.Flowchart.{flowchart_of}
use Rattle.pap_plan.specs.declared.bound.BoundPlan.{BoundPlan}
use Rattle.pap_plan.specs.declared.refusal.PlanRefusal.{PlanRefusal}
use Rattle.pap_plan.specs.BoundPlans.{IsBoundPlan, IsBeforeRanges}
use Rattle.plain_words.specs.Places.{NamedText}
use Rattle.author_cli.specs.Traced.{IsRefusedAs}
use Rattle.author_cli.specs.Examples.{IsFoundText, IsExample}

pub searched : (plan limits : NamedText) (b : BoundPlan) (text : List ℕ) (reason : Option (List ℕ))
    → IsBoundPlan plan.bytes limits.bytes b → IsFoundText (flowchart_of b.typed) b.limits text reason
    → IsExample plan limits text reason
searched plan limits b text reason bound h = inl (record {
  flowchart = flowchart_of b.typed;
  ranges = b.limits;
  bound = bound.passed;
  tells = h;
})

pub unsearched : (plan limits : NamedText) (r : PlanRefusal) (text : List ℕ) (reason : Option (List ℕ))
    → IsBeforeRanges r → IsRefusedAs r plan limits text reason → IsExample plan limits text reason
unsearched plan limits r text reason early h = inr (record { refusal = r; early = early; tells = h })
