-- What the line `accepted steps N` promises of a plan.
use Rattle.std.specs.Prelude.{ℕ, ◌≤◌, List}
use Rattle.scaled_decimal.specs.Decimals.{Decimal}
use Rattle.pap_types.specs.Meaning.{cost_of}
use Rattle.interval_walk.specs.Admission.{AreAdmitted}
use Rattle.pap_plan.specs.Acceptance.{Meaning, IsAccepted}
use Rattle.pap_plan.specs.AcceptanceLaws.{RunsToItsEnd}

-- the run on these inputs gets to its end, in so many steps at most
pub record EndsWithin (m : Meaning) (steps : ℕ) (inputs : List Decimal) : Type 0 where
  pub run : RunsToItsEnd m inputs
  pub cost : cost_of m.flowchart inputs ≤ steps

-- the two texts mean a plan; and on all inputs within its ranges its run gets to its end, in so many steps at most
pub record NeverFailsWithin (plan limits : List ℕ) (steps : ℕ) : Type 0 where
  pub meaning : Meaning
  pub accepted : IsAccepted plan limits meaning
  pub runs :
      (inputs : List Decimal) → AreAdmitted meaning.flowchart meaning.limits inputs
      → EndsWithin meaning steps inputs
