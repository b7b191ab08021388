-- What was found, as a place in the files of a plan.
use Rattle.std.specs.Prelude.{◌≡◌, ℕ, List, ◌++◌, Option, None, IfSome, ⊤}
use Rattle.pap_reader.specs.declared.fault.Which.{Which}
use Rattle.pap_reader.specs.declared.fault.Which.TheVariants as which
use Rattle.pap_plan.specs.declared.refusal.PlanRefusal.{PlanRefusal}
use Rattle.pap_plan.specs.declared.refusal.PlanRefusal.TheVariants as refusals
use Rattle.plain_words.specs.declared.found.FileKind.{FileKind}
use Rattle.plain_words.specs.declared.found.FileKind.TheVariants.{Plan, Ranges}
use Rattle.plain_words.specs.declared.found.Found.{Found}
use Rattle.plain_words.specs.Places.{PlanPlace, in_plan, in_ranges}
use Rattle.plain_words.specs.Refusals.{IsInRanges, IsPlaceOfUnmatched}

abbrev pub place_in : FileKind → Option ℕ → PlanPlace
place_in Plan at = in_plan at
place_in Ranges at = in_ranges at

abbrev pub place_of : Found → PlanPlace
place_of found = place_in found.file found.at

-- what helps, with what is said behind that
abbrev pub help_text : Found → List ℕ
help_text found = found.help.now ++ found.also.now

-- where it is known what helps, that is it
abbrev pub HelpsAs : Option (List ℕ) → Found → Type 0
HelpsAs help found = IfSome help (λ text. help_text found ≡ text)

-- it was found in the flowchart's file
abbrev pub IsOfPlan : Found → Type 0
IsOfPlan found = found.file ≡ Plan

-- it was found in the range file
abbrev pub IsOfRanges : Found → Type 0
IsOfRanges found = found.file ≡ Ranges

-- the first one too many has a tag: it is none of the bytes, and no depth
abbrev pub HasTag : Which → Type 0
HasTag which.Bytes = ⊥
HasTag which.Depth = ⊥
HasTag _ = ⊤

-- where that tag begins; without one there is no byte
abbrev pub IsExcessByte : Which → Option ℕ → Type 0
IsExcessByte which.Bytes at = at ≡ None
IsExcessByte which.Depth at = at ≡ None
IsExcessByte _ at = ⊤

-- the place of what doesn't fit between a flowchart and its range file
abbrev pub IsPlaceBeside : List ℕ → PlanRefusal → PlanPlace → Type 0
IsPlaceBeside plan (refusals.LimitName name) place = IsPlaceOfUnmatched plan name place
IsPlaceBeside plan _ place = IsInRanges place
