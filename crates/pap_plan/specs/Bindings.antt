-- Whether the limits and bindings of a range file are those of a plan.
use Rattle.std.specs.Prelude.{◌≡◌, ℕ, Bool, true, not, ◌&&◌, is_some, List, ◌∷◌, ◌++◌, All, Option, Some, None}
use Rattle.std.specs.List.{find}
use Rattle.std.specs.Option.{option_map, option_or}
use Rattle.pap_tree.specs.Declarations.{Declaration}
use Rattle.pap_tree.specs.Flowchart.{Flowchart}
use Rattle.limits_file.specs.declared.limits.InputLimit.{InputLimit}
use Rattle.limits_file.specs.declared.limits.Limits.{Limits}
use Rattle.limits_file.specs.declared.limits.Binding.{Binding}
use Rattle.limits_file.specs.declared.limits.Carry.{Carry}
use Rattle.limits_file.specs.declared.limits.Carry.TheVariants.{Sum, Last, Count}
use Rattle.pap_types.specs.Scopes.{names_of}
use Rattle.pap_types.specs.Checks.{has_name}
use Rattle.limits_file.specs.Limits.{limit_named}
use Rattle.interval_walk.specs.Admission.{SuitsLimit}
use Rattle.pap_plan.specs.declared.refusal.PlanRefusal.{PlanRefusal}
use Rattle.pap_plan.specs.declared.refusal.PlanRefusal.TheVariants as refusals

-- ---- names

-- some limit has this name
abbrev pub has_limit : Limits → List ℕ → Bool
has_limit l x = is_some (limit_named l x)

-- some input has this name
abbrev pub is_input : Flowchart → List ℕ → Bool
is_input f x = has_name (names_of f.inputs) x

-- some output has this name
abbrev pub is_output : Flowchart → List ℕ → Bool
is_output f x = has_name (names_of f.outputs) x

-- the first declared input without a limit
abbrev pub input_without_limit : Flowchart → Limits → Option (List ℕ)
input_without_limit f l = option_map (λ d. d.name) (find (λ d. not (has_limit l d.name)) f.inputs)

-- the first limit whose name isn't an input's
abbrev pub limit_without_input : Flowchart → Limits → Option (List ℕ)
limit_without_input f l = option_map (λ i. i.name) (find (λ i. not (is_input f i.name)) l.inputs)

-- the first input without a limit; where each has one, the first limit of no input
abbrev pub unmatched_name : Flowchart → Limits → Option (List ℕ)
unmatched_name f l = option_or (input_without_limit f l) (limit_without_input f l)

-- ---- kinds

-- the limit of a declared input suits its type
pub record HasSuitedLimit (l : Limits) (d : Declaration) : Type 0 where
  pub limit : InputLimit
  pub is : limit_named l d.name ≡ Some limit
  pub suits : SuitsLimit d.kind limit

-- the first declared input whose limit doesn't suit its type has this name
pub record IsFirstUnsuited (f : Flowchart) (l : Limits) (name : List ℕ) : Type 0 where
  pub before : List Declaration
  pub input : Declaration
  pub after : List Declaration
  pub whole : f.inputs ≡ before ++ (input ∷ after)
  pub suited : All (HasSuitedLimit l) before
  pub unsuited : HasSuitedLimit l input → ⊥
  pub named : input.name ≡ name

-- ---- bindings

-- the output that is carried over, where there is one, is one of the plan
abbrev pub carries_output : Flowchart → Carry → Bool
carries_output f (Sum output) = is_output f output
carries_output f (Last output) = is_output f output
carries_output f Count = true

-- the binding is of an input and carries an output over
abbrev pub is_bound : Flowchart → Limits → Binding → Bool
is_bound f l b = has_limit l b.input && carries_output f b.carry

-- the input of the first binding, in order of these names, whose input has no limit or whose output isn't declared
abbrev pub unbound_input : Flowchart → Limits → Option (List ℕ)
unbound_input f l = option_map (λ b. b.input) (find (λ b. not (is_bound f l b)) l.bindings)

-- ---- all of these

-- the limits and bindings are those of the plan
pub record AreMatched (f : Flowchart) (l : Limits) : Type 0 where
  pub names : unmatched_name f l ≡ None
  pub suited : All (HasSuitedLimit l) f.inputs
  pub bound : unbound_input f l ≡ None

-- limits and bindings that aren't those of the plan are refused so, for the first name at which they aren't
abbrev pub IsUnmatched : Flowchart → Limits → PlanRefusal → Type 0
IsUnmatched f l (refusals.LimitName name) = unmatched_name f l ≡ Some name
IsUnmatched f l (refusals.LimitKind name) = (unmatched_name f l ≡ None) × IsFirstUnsuited f l name
IsUnmatched f l (refusals.Bind name) =
    (unmatched_name f l ≡ None) × All (HasSuitedLimit l) f.inputs × (unbound_input f l ≡ Some name)
IsUnmatched f l _ = ⊥
