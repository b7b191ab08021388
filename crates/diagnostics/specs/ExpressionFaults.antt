-- The faults of all expressions of a plan (docs/PROFILE.md, "Expressions").
use Rattle.std.specs.Prelude.{◌≡◌, ◌↔◌, ◌⊎◌, ℕ, List, [], ◌∷◌, Some, slice_get}
use Rattle.pap_expr.specs.declared.fault.ExprFault.{ExprFault}
use Rattle.pap_plan.specs.Acceptance.{IsRefused}
use Rattle.pap_plan.specs.declared.refusal.PlanRefusal.TheVariants as refusals
use Rattle.pap_reader.specs.declared.fault.ReadFault.{ReadFault}
use Rattle.pap_reader.specs.Elements.{IsElements, IsFault}
use Rattle.pap_reader.specs.Trees.{ElementTree}
use Rattle.plan_text.specs.ExprFaults.{IsExprFault}
use Rattle.plan_text.specs.Sites.{Site, sites_of, IsReadable}
use Rattle.plan_text.specs.declared.fault.PlanFault.{PlanFault}
use Rattle.plan_text.specs.declared.fault.PlanFault.TheVariants as texts
use Rattle.plan_text.specs.declared.fault.Spot.{Spot}

-- the faults of these texts, in their order: each text is an expression, or it has a fault, which stands among them with its place
abbrev pub AreFaultsOf : List Site → List PlanFault → Type 0
AreFaultsOf [] faults = faults ≡ []
AreFaultsOf (s ∷ sites) faults =
    (IsReadable s × AreFaultsOf sites faults)
    ⊎ ((fault : ExprFault) × (later : List PlanFault) × IsExprFault s.line s.text fault
    × (faults ≡ texts.Expr s.spot fault ∷ later) × AreFaultsOf sites later)

-- the faults of all expressions of a plan, in the order in which they are read; none where its elements aren't read
pub record AreExpressionFaults (plan : List ℕ) (faults : List PlanFault) : Type 0 where
  pub read : (x : ElementTree) → IsElements plan x → AreFaultsOf (sites_of x) faults
  pub unread : (fault : ReadFault) → IsFault plan fault → faults ≡ []

-- ---- laws

-- a plan has one list of faults
abbrev pub HaveOneFaultList : Type 0
HaveOneFaultList =
    (plan : List ℕ) (a b : List PlanFault) → AreExpressionFaults plan a → AreExpressionFaults plan b → a ≡ b

-- a plan is refused for an expression, with whatever range file, exactly where that is the first of its faults
abbrev pub FirstFaultIsAnswered : Type 0
FirstFaultIsAnswered =
    (plan limits : List ℕ) (faults : List PlanFault) → AreExpressionFaults plan faults
    → (spot : Spot) (fault : ExprFault)
    → IsRefused plan limits (refusals.Expr spot fault) ↔ (slice_get faults 0 ≡ Some (texts.Expr spot fault))
