-- What private contracts say of samples.
use Rattle.std.specs.Prelude.{◌≡◌, List, Some}
use Rattle.std.specs.List.{AllZip}
use Rattle.scaled_decimal.specs.Decimals.{Decimal}
use Rattle.pap_tree.specs.declared.declaration.Declared.{Declared}
use Rattle.pap_tree.specs.Declarations.{Declaration, declaration_of}
use Rattle.pap_tree.specs.Flowchart.{Flowchart}
use Rattle.limits_file.specs.declared.limits.Limits.{Limits}
use Rattle.limits_file.specs.Limits.{limit_named, HasSoundBounds}
use Rattle.interval_walk.specs.Admission.{IsAdmitted, SuitsLimit}
use Rattle.failing_input.specs.declared.samples.InputRange.{InputRange}
use Rattle.failing_input.specs.declared.samples.FailingSample.{FailingSample}
use Rattle.failing_input.specs.Searches.{IsFailingInput}

-- a range has sound bounds and suits its type
pub record IsSoundRange (r : InputRange) : Type 0 where
  pub sound : HasSoundBounds r.limit
  pub suits : SuitsLimit r.kind r.limit

-- the type and the limit of a declared input
pub record IsRangeOf (limits : Limits) (d : Declaration) (r : InputRange) : Type 0 where
  pub kind : r.kind ≡ d.kind
  pub is : limit_named limits d.name ≡ Some r.limit
  pub sound : IsSoundRange r

-- those of all inputs, in declared order
abbrev pub AreRangesOf : Limits → List Declared → List InputRange → Type 0
AreRangesOf limits ds rs = AllZip (λ d r. IsRangeOf limits (declaration_of d) r) ds rs

-- a value of each range
abbrev pub AreChosen : List InputRange → List Decimal → Type 0
AreChosen rs vs = AllZip (λ r v. IsAdmitted r.kind r.limit v) rs vs

-- the sample is a failing input
abbrev pub IsFailingSample : Flowchart → Limits → FailingSample → Type 0
IsFailingSample f limits s = IsFailingInput f limits s.inputs.items s.failure
