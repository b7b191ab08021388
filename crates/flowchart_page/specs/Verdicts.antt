-- What is said of a plan.
use Rattle.std.specs.Prelude.{◌≡◌, ◌⊎◌, ℕ, List, [], Bool, true, false, Option, Some, None, unwrap_or}
use Rattle.pap_plan.specs.declared.refusal.PlanRefusal.{PlanRefusal}
use Rattle.pap_plan.specs.declared.refusal.PlanRefusal.TheVariants.{LimitName}
use Rattle.pap_plan.specs.Acceptance.{Meaning, IsAccepted, IsRefused}
use Rattle.plain_words.specs.Places.{NamedText, PlanFiles}
use Rattle.plain_words.specs.Refusals.{TellsPlan}

-- a refusal for an input without a limit, or a limit without an input
abbrev pub lacks_limit : PlanRefusal → Bool
lacks_limit (LimitName name) = true
lacks_limit _ = false

-- the range file, or an empty one of no name where there is none
abbrev pub file_or_none : Option NamedText → NamedText
file_or_none limits = unwrap_or limits (record { name = []; bytes = [] })

-- the files by which a plan is judged
abbrev pub files_with : NamedText → Option NamedText → PlanFiles
files_with plan limits = record { plan = plan; ranges = file_or_none limits }

-- the words say why a plan without a range file is refused, which isn't for an input without a limit
pub record TellsAlone (plan : NamedText) (words : List ℕ) : Type 0 where
  pub tells : TellsPlan (files_with plan None) words
  pub other : lacks_limit tells.refusal ≡ false

-- Why a plan is refused, in words. With a range file there are words exactly where the two are
-- not accepted. Without a range file the plan is judged with an empty one, and an input without
-- a limit is no reason then.
abbrev pub IsJudged : NamedText → Option NamedText → Option (List ℕ) → Type 0
IsJudged plan (Some limits) (Some words) = TellsPlan (files_with plan (Some limits)) words
IsJudged plan (Some limits) None = (m : Meaning) × IsAccepted plan.bytes limits.bytes m
IsJudged plan None (Some words) = TellsAlone plan words
IsJudged plan None None =
    ((m : Meaning) × IsAccepted plan.bytes [] m)
    ⊎ ((name : List ℕ) × IsRefused plan.bytes [] (LimitName name))
