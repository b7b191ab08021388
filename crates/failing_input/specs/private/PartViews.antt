-- What private contracts say of the parts of a search.
use Rattle.std.specs.Prelude.{◌≡◌, ◌≤◌, ◌⊎◌, Bool, true, false, Result, Ok, Err, is_ok, List, [], ◌∷◌, All, ⊤}
use Rattle.scaled_decimal.specs.Decimals.{Decimal}
use Rattle.pap_tree.specs.Flowchart.{Flowchart}
use Rattle.limits_file.specs.declared.limits.Limits.{Limits}
use Rattle.interval_walk.specs.Admission.{AreAdmitted}
use Rattle.interval_walk.specs.Analysis.{analysed}
use Rattle.interval_analysis.specs.declared.fault.RangeFault.{RangeFault}
use Rattle.interval_analysis.specs.declared.fault.RangeFault.TheVariants as faults
use Rattle.interval_analysis.specs.declared.verdict.Verdict.{Verdict}
use Rattle.range_parts.specs.Parts.{IsRangePart, AreRangeParts}
use Rattle.failing_input.specs.declared.search.Step.{Step}
use Rattle.failing_input.specs.declared.search.Step.TheVariants.{Passes, Fails, Splits, Stays}
use Rattle.failing_input.specs.declared.search.Search.{Search}
use Rattle.failing_input.specs.declared.search.Search.TheVariants as answers
use Rattle.failing_input.specs.declared.search.Known.{Known}
use Rattle.failing_input.specs.Limits.{most_walks}
use Rattle.failing_input.specs.Searches.{PassesWalk, IsFailingInput, AreSafeParts}
use Rattle.failing_input.specs.private.SampleViews.{IsFailingSample}

-- whether the walk passes
abbrev pub IsWalked : Flowchart → Limits → Bool → Type 0
IsWalked f limits passed = passed ≡ is_ok (analysed f limits)

-- whether a walk passed, of which memory didn't run out
abbrev pub IsEnd : Result Verdict RangeFault → Bool → Type 0
IsEnd (Ok v) passed = passed ≡ true
IsEnd (Err (faults.At place cause)) passed = passed ≡ false
IsEnd (Err (faults.Output name)) passed = passed ≡ false
IsEnd (Err (faults.Memory e)) passed = ⊥

-- what comes of a part
abbrev pub IsStep : Flowchart → Limits → Step → Type 0
IsStep f part Passes = PassesWalk f part
IsStep f part (Fails s) = IsFailingSample f part s
IsStep f part (Splits parts) = AreRangeParts f part parts
IsStep f part Stays = ⊤

-- inputs lie in one of some parts
abbrev pub IsHeldIn : Flowchart → List Decimal → List Limits → Type 0
IsHeldIn f inputs [] = ⊥
IsHeldIn f inputs (p ∷ ps) = AreAdmitted f p inputs ⊎ IsHeldIn f inputs ps

-- the walk passes some parts, which with those that are left hold all inputs that the limits admit
pub record IsSearched (f : Flowchart) (limits : Limits) (done left : List Limits) : Type 0 where
  pub cover : (inputs : List Decimal) → AreAdmitted f limits inputs
      → IsHeldIn f inputs done ⊎ IsHeldIn f inputs left
  pub passed : All (PassesWalk f) done
  pub finished : All (IsRangePart f limits) done
  pub parts : All (IsRangePart f limits) left

-- a search begins with the whole ranges
pub record BeginsWith (limits : Limits) (k : Known) : Type 0 where
  pub part : Limits
  pub same : part.inputs ≡ limits.inputs
  pub passed : k.done.items ≡ []
  pub left : k.left.items ≡ part ∷ []

-- what comes of a search in parts
abbrev pub IsOutcome : Flowchart → Limits → Search → Type 0
IsOutcome f limits (answers.Fails inputs failure) = IsFailingInput f limits inputs.items failure
IsOutcome f limits (answers.Safe parts) = AreSafeParts f limits parts.items
IsOutcome f limits (answers.NotFound parts) = parts ≤ most_walks
