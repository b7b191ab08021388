-- Parts of the ranges of a plan's inputs.
use Rattle.std.specs.Prelude.{◌⊎◌, List, All}
use Rattle.scaled_decimal.specs.Decimals.{Decimal}
use Rattle.pap_tree.specs.Flowchart.{Flowchart}
use Rattle.limits_file.specs.declared.limits.Limits.{Limits}
use Rattle.limits_file.specs.Limits.{HasSoundBounds}
use Rattle.interval_walk.specs.Admission.{HaveLimits, AreAdmitted}
use Rattle.range_parts.specs.declared.parts.Parts.{Parts}

-- ranges of the same inputs that admit none but inputs of the whole
pub record IsRangePart (f : Flowchart) (limits part : Limits) : Type 0 where
  pub ranged : HaveLimits f part
  pub sound : All HasSoundBounds part.inputs
  pub within : (inputs : List Decimal) → AreAdmitted f part inputs → AreAdmitted f limits inputs

-- two parts that hold all inputs of the whole
pub record AreRangeParts (f : Flowchart) (limits : Limits) (parts : Parts) : Type 0 where
  pub first : IsRangePart f limits parts.first
  pub second : IsRangePart f limits parts.second
  pub cover : (inputs : List Decimal) → AreAdmitted f limits inputs
      → AreAdmitted f parts.first inputs ⊎ AreAdmitted f parts.second inputs
