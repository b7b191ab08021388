-- What the calls that fill and run promise.
use Rattle.std.specs.Prelude.{◌≡◌, ◌≤◌, List, Some, ⊤}
use Rattle.scaled_decimal.specs.Decimals.{Decimal}
use Rattle.interval_walk.specs.Admission.{AreAdmitted}
use Rattle.pap_types.specs.Limits.{most_steps}
use Rattle.pap_types.specs.Meaning.{outputs_of}
use Rattle.carry_bindings.specs.Conditions.{AreBounded}
use Rattle.carry_bindings.specs.declared.filling.Filled.{Filled}
use Rattle.carry_bindings.specs.declared.filling.Filled.TheVariants as filling
use Rattle.pay_run.specs.Accepted.{Accepted}
use Rattle.pay_run.specs.Runs.{run_outputs, run_cost}
use Rattle.pay_run.specs.declared.outputs.Finished.{Finished}

-- the plan admits the inputs: each is kept, and within its limit
abbrev pub AdmitsFilled : Accepted → Filled → Type 0
AdmitsFilled p (filling.Inputs inputs) =
    AreAdmitted p.meaning.flowchart p.meaning.limits inputs
AdmitsFilled p (filling.State why) = ⊤

-- the inputs are these, or there are none for this cause
pub record Fills (p : Accepted) (these filled : Filled) : Type 0 where
  pub are : filled ≡ these
  pub admitted : AdmitsFilled p filled

-- the run of the plan's flowchart is defined
pub record IsDefinedRun (p : Accepted) (inputs : List Decimal) : Type 0 where
  pub values : List Decimal
  pub are : outputs_of p.meaning.flowchart inputs ≡ Some values

-- the outputs and the cost of a plan's run
pub record HasRun (p : Accepted) (inputs : List Decimal) (f : Finished) : Type 0 where
  pub defined : IsDefinedRun p inputs
  pub outputs : f.outputs ≡ run_outputs p inputs
  pub cost : f.cost ≡ run_cost p inputs
  pub bounded : AreBounded (Some f.outputs)
  pub cheap : f.cost ≤ most_steps
