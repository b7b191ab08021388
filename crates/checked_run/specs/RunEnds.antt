-- What comes of a run.
use Rattle.std.specs.Prelude.{◌≡◌, List, map}
use Rattle.scaled_decimal.specs.Decimals.{Decimal}
use Rattle.pap_tree.specs.Flowchart.{Flowchart}
use Rattle.pap_types.specs.Meaning.{IsSafeFor}
use Rattle.checked_run.specs.declared.run.RunEnd.{RunEnd}
use Rattle.checked_run.specs.declared.run.RunEnd.TheVariants.{Ends, Fails}
use Rattle.checked_run.specs.RunFailures.{RunFails}

-- inputs are safe for a plan, and its variables have these values at the end of the run
pub record EndsAs (f : Flowchart) (inputs values : List Decimal) : Type 0 where
  pub safe : IsSafeFor f inputs
  pub stand : map (λ v. v.value) safe.ends ≡ values

-- the run ends with these values, or fails there
abbrev pub IsRunEnd : Flowchart → List Decimal → RunEnd → Type 0
IsRunEnd f inputs (Ends values) = EndsAs f inputs values.items
IsRunEnd f inputs (Fails failure) = RunFails f inputs failure
