-- What is appended of what stands where a plan is refused, as the code has it.
use Rattle.std.specs.Prelude.{◌≡◌, ℕ, Bool, true, false, List, [], ◌++◌, ⊤}
use Rattle.pap_plan.specs.declared.refusal.PlanRefusal.{PlanRefusal}
use Rattle.pap_plan.specs.declared.refusal.PlanRefusal.TheVariants as refusals
use Rattle.plain_words.specs.Refusals.{DeclaresInput}
use Rattle.plain_words.specs.RefusalTexts.{limit_name_text, binding_text}

-- one text is appended where the flowchart's file declares an INPUT of this name, and else another
pub record AppendsByInput (plan name : List ℕ) (text : Bool → List ℕ) (old new : List ℕ) : Type 0 where
  pub input : DeclaresInput plan name → new ≡ old ++ text true
  pub none : ¬ (DeclaresInput plan name) → new ≡ old ++ text false

-- the text of a refusal of an input's name, and of another refusal whichever
abbrev pub AppendsDetail : List ℕ → PlanRefusal → List ℕ → List ℕ → Type 0
AppendsDetail plan (refusals.LimitName name) old new = AppendsByInput plan name (limit_name_text name) old new
AppendsDetail plan (refusals.Bind name) old new = AppendsByInput plan name (binding_text name) old new
AppendsDetail plan _ old new = ⊤

-- the text of a refusal of an input's name where the flowchart declares none of that name
abbrev pub undeclared_text : PlanRefusal → List ℕ
undeclared_text (refusals.LimitName name) = limit_name_text name false
undeclared_text (refusals.Bind name) = binding_text name false
undeclared_text _ = []
