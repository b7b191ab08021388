-- What a search for failing inputs answers.
use Rattle.std.specs.Prelude.{◌≡◌, ◌≤◌, ℕ, List, length, Any, All, Ok}
use Rattle.scaled_decimal.specs.Decimals.{Decimal}
use Rattle.pap_tree.specs.Flowchart.{Flowchart}
use Rattle.limits_file.specs.declared.limits.Limits.{Limits}
use Rattle.limits_file.specs.Limits.{IsWithinBound}
use Rattle.pap_types.specs.Meaning.{IsSafeFor, outputs_in}
use Rattle.interval_walk.specs.Admission.{AreAdmitted}
use Rattle.interval_walk.specs.Analysis.{analysed}
use Rattle.interval_walk.specs.Ranges.{Ranges}
use Rattle.checked_run.specs.declared.failure.RunFailure.TheVariants.{At}
use Rattle.checked_run.specs.RunFailures.{RunFails}
use Rattle.failing_input.specs.Limits.{most_walks}
use Rattle.failing_input.specs.Outputs.{EndsBeyond}
use Rattle.failing_input.specs.declared.failure.Failure.{Failure}
use Rattle.failing_input.specs.declared.failure.Failure.TheVariants.{Node, Output}
use Rattle.failing_input.specs.declared.search.Search.{Search}
use Rattle.failing_input.specs.declared.search.Search.TheVariants.{Fails, Safe, NotFound}

-- ---- inputs that fail

-- the run of a plan on these inputs fails so: at a node, or by an output at its end
abbrev pub FailsOn : Flowchart → List Decimal → Failure → Type 0
FailsOn f inputs (Node place cause) = RunFails f inputs (At place cause)
FailsOn f inputs (Output name) = EndsBeyond f inputs name

-- the limits admit these inputs, and the run on them fails so
pub record IsFailingInput (f : Flowchart) (limits : Limits) (inputs : List Decimal) (x : Failure) : Type 0 where
  pub admitted : AreAdmitted f limits inputs
  pub fails : FailsOn f inputs x

-- ---- parts of the ranges

-- the walk passes from these limits
abbrev pub PassesWalk : Flowchart → Limits → Type 0
PassesWalk f part = (ranges : Ranges) × (analysed f part ≡ Ok ranges)

-- inputs are safe for a plan, and each output is within the bound
pub record IsWhollySafe (f : Flowchart) (inputs : List Decimal) : Type 0 where
  pub safe : IsSafeFor f inputs
  pub outputs : All IsWithinBound (outputs_in f safe.ends)

-- the parts hold all inputs that the limits admit, and the walk passes each part; so each of these inputs is safe
pub record AreSafeParts (f : Flowchart) (limits : Limits) (parts : List Limits) : Type 0 where
  pub cover : (inputs : List Decimal) → AreAdmitted f limits inputs
      → Any (λ part. AreAdmitted f part inputs) parts
  pub passed : All (PassesWalk f) parts
  pub safe : (inputs : List Decimal) → AreAdmitted f limits inputs → IsWhollySafe f inputs

-- ---- the answer

-- these parts are safe; where the walk passes from the limits themselves there is one part
pub record IsShownSafe (f : Flowchart) (limits : Limits) (parts : List Limits) : Type 0 where
  pub are : AreSafeParts f limits parts
  pub whole : PassesWalk f limits → length parts ≡ 1

-- a search that found nothing walked so many parts, and the walk doesn't pass from the limits
pub record IsUndecided (f : Flowchart) (limits : Limits) (parts : ℕ) : Type 0 where
  pub refused : ¬ (PassesWalk f limits)
  pub few : parts ≤ most_walks

-- this is the answer of a search
abbrev pub IsSearchAnswer : Flowchart → Limits → Search → Type 0
IsSearchAnswer f limits (Fails inputs failure) = IsFailingInput f limits inputs.items failure
IsSearchAnswer f limits (Safe parts) = IsShownSafe f limits parts.items
IsSearchAnswer f limits (NotFound parts) = IsUndecided f limits parts
