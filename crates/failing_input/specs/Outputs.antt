-- When an output is beyond its bound at the end of a run.
use Rattle.std.specs.Prelude.{◌≡◌, ◌⊎◌, ℕ, List, [], ◌∷◌}
use Rattle.scaled_decimal.specs.Decimals.{Decimal}
use Rattle.pap_tree.specs.Declarations.{Declaration}
use Rattle.pap_tree.specs.Flowchart.{Flowchart}
use Rattle.limits_file.specs.Limits.{IsWithinBound}
use Rattle.pap_types.specs.Meaning.{IsSafeFor, outputs_in}

-- among declared outputs with their values one of this name has a value beyond the bound of outputs
abbrev pub HasBeyond : List Declaration → List Decimal → List ℕ → Type 0
HasBeyond (d ∷ ds) (v ∷ vs) name = ((d.name ≡ name) × ¬ (IsWithinBound v)) ⊎ HasBeyond ds vs name
HasBeyond _ _ name = ⊥

-- inputs are safe for a plan, and at the end of the run the output of this name is beyond the bound of outputs
pub record EndsBeyond (f : Flowchart) (inputs : List Decimal) (name : List ℕ) : Type 0 where
  pub safe : IsSafeFor f inputs
  pub beyond : HasBeyond f.outputs (outputs_in f safe.ends) name
