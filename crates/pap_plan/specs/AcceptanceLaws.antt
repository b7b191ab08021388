-- What holds of acceptance.
use Rattle.std.specs.Prelude.{◌≡◌, ℕ, ◌≤◌, List, Some, Result, Err}
use Rattle.scaled_decimal.specs.Decimals.{Decimal}
use Rattle.pap_tree.specs.Flowchart.{Flowchart}
use Rattle.limits_file.specs.declared.limits.Limits.{Limits}
use Rattle.pap_types.specs.Scopes.{names_of}
use Rattle.pap_types.specs.Limits.{most_steps}
use Rattle.pap_types.specs.Meaning.{IsSafeFor, outputs_of, cost_of, bound_of}
use Rattle.interval_walk.specs.Admission.{AreAdmitted}
use Rattle.interval_walk.specs.Analysis.{analysed}
use Rattle.interval_walk.specs.Asked.{RefusesNothingOutright}
use Rattle.interval_walk.specs.Failures.{WalkFault}
use Rattle.interval_walk.specs.Ranges.{names_in}
use Rattle.interval_walk.specs.Refusals.{PlanRefuses}
use Rattle.interval_walk.specs.Soundness.{AreOutputs}
use Rattle.interval_walk.specs.WalkReading.{ReadsPlan}
use Rattle.pap_plan.specs.declared.refusal.PlanRefusal.{PlanRefusal}
use Rattle.pap_plan.specs.Acceptance.{Meaning, IsOrderedPlan, HasBindings, IsAccepted, AcceptanceSays}

-- every two texts have an answer
abbrev pub HaveAnAnswer : Type 0
HaveAnAnswer = (plan limits : List ℕ) → (a : Result Meaning PlanRefusal) × AcceptanceSays plan limits a

-- no two texts have two answers
abbrev pub HaveOneAnswer : Type 0
HaveOneAnswer =
    (plan limits : List ℕ) (a b : Result Meaning PlanRefusal) → AcceptanceSays plan limits a → AcceptanceSays plan limits b → a ≡ b

-- ---- what is accepted

-- the run on these inputs gets to its end: it is defined, and every number that it works with is within its limit; its
-- outputs are these, each in its range and within the bound of outputs; and it costs at most the bound of the plan
pub record RunsToItsEnd (m : Meaning) (inputs : List Decimal) : Type 0 where
  pub safe : IsSafeFor m.flowchart inputs
  pub outputs : List Decimal
  pub are : outputs_of m.flowchart inputs ≡ Some outputs
  pub within : AreOutputs m.outputs outputs
  pub cost : cost_of m.flowchart inputs ≤ bound_of m.flowchart

-- an accepted plan never fails in the middle of a run, whatever inputs it gets that its limits admit
abbrev pub AcceptedPlansNeverFail : Type 0
AcceptedPlansNeverFail =
    (plan limits : List ℕ) (m : Meaning) → IsAccepted plan limits m
    → (inputs : List Decimal) → AreAdmitted m.flowchart m.limits inputs → RunsToItsEnd m inputs

-- no accepted plan has a bound above `most_steps`
abbrev pub BoundsAreSmall : Type 0
BoundsAreSmall =
    (plan limits : List ℕ) (m : Meaning) → IsAccepted plan limits m → bound_of m.flowchart ≤ most_steps

-- the ranges of an accepted plan are those of its outputs, by name and in declared order
abbrev pub RangesAreNamed : Type 0
RangesAreNamed =
    (plan limits : List ℕ) (m : Meaning) → IsAccepted plan limits m → names_in m.outputs ≡ names_of m.flowchart.outputs

-- ---- what is judged

-- Once a plan reaches the range analysis, its walk refuses nothing where it is read, and behind each test that it
-- passes it goes on.
abbrev pub JudgedPlansAreRead : Type 0
JudgedPlansAreRead =
    (plan limits : List ℕ) (f : Flowchart) (l : Limits) → HasBindings plan limits f l → ReadsPlan f l

-- Where the names and kinds of a plan are right and its methods can be ordered, as of each whose ranges are judged, its walk
-- refuses nothing outright, whatever the ranges are.
abbrev pub OrderedPlansCanBeWalked : Type 0
OrderedPlansCanBeWalked =
    (plan : List ℕ) (f : Flowchart) → IsOrderedPlan plan f → RefusesNothingOutright f

-- Once a plan reaches the range analysis it is refused only by the row of an operation, at the place and for the cause
-- that the refusal names, or because an output may be beyond its bound.
abbrev pub JudgedPlansAreRefusedByRows : Type 0
JudgedPlansAreRefusedByRows =
    (plan limits : List ℕ) (f : Flowchart) (l : Limits) (x : WalkFault)
    → HasBindings plan limits f l → analysed f l ≡ Err x → PlanRefuses f l x
