-- In which file of a plan a refusal stands, at which byte where its place is pinned to one, and what its words say is wrong.
use Rattle.std.specs.Prelude.{◌≡◌, ℕ, Bool, true, false, List, ◌++◌, codes, map, Option, Some, None, IfSome, IsTrue, ⊤}
use Rattle.pap_reader.specs.declared.fault.Which.{Which}
use Rattle.pap_reader.specs.declared.fault.Which.TheVariants as which
use Rattle.pap_reader.specs.declared.fault.ReadFault.{ReadFault}
use Rattle.pap_reader.specs.declared.fault.ReadFault.TheVariants as reads
use Rattle.pap_reader.specs.Trees.{ElementTree}
use Rattle.pap_reader.specs.Elements.{IsElements}
use Rattle.pap_types.specs.Checks.{has_name}
use Rattle.limits_file.specs.declared.fault.LimitsFault.{LimitsFault}
use Rattle.limits_file.specs.declared.fault.LimitsFault.TheVariants as limits
use Rattle.pap_plan.specs.declared.refusal.PlanRefusal.{PlanRefusal}
use Rattle.pap_plan.specs.declared.refusal.PlanRefusal.TheVariants as refusals
use Rattle.pap_plan.specs.Acceptance.{IsRefused}
use Rattle.plain_words.specs.Lines.{IsOneLine, StartsWith, EndsWith}
use Rattle.plain_words.specs.Places.{PlanFiles, PlanPlace, in_plan, in_ranges, words_at, IsReason}
use Rattle.plain_words.specs.RefusalTexts.{plan_refusal_text, limit_name_text, binding_text}
use Rattle.plain_words.specs.Helps.{help_of}
use Rattle.plain_words.specs.Strays.{IsStopByte}

-- the place is one in the flowchart's file, whichever
abbrev pub IsInPlan : PlanPlace → Type 0
IsInPlan (in_plan at) = ⊤
IsInPlan (in_ranges at) = ⊥

-- the place is one in the range file, whichever
abbrev pub IsInRanges : PlanPlace → Type 0
IsInRanges (in_plan at) = ⊥
IsInRanges (in_ranges at) = ⊤

-- too many bytes, or IFs too deep, have the flowchart's file as a whole
abbrev pub IsPlaceOfExcess : Which → PlanPlace → Type 0
IsPlaceOfExcess which.Bytes place = place ≡ in_plan None
IsPlaceOfExcess which.Depth place = place ≡ in_plan None
IsPlaceOfExcess _ place = IsInPlan place

-- what isn't read stands at its byte, or at the sign in a value of it that would have to be escaped
abbrev pub IsPlaceOfFault : List ℕ → ReadFault → PlanPlace → Type 0
IsPlaceOfFault plan (reads.Text at) place = (to : ℕ) × IsStopByte plan at to × (place ≡ in_plan (Some to))
IsPlaceOfFault plan (reads.Element at) place = place ≡ in_plan (Some at)
IsPlaceOfFault plan (reads.Attribute at) place = place ≡ in_plan (Some at)
IsPlaceOfFault plan (reads.Many excess) place = IsPlaceOfExcess excess place
IsPlaceOfFault plan reads.Memory place = ⊥

-- a range file that is too long is refused as a whole
abbrev pub IsPlaceOfLimits : LimitsFault → PlanPlace → Type 0
IsPlaceOfLimits limits.LimitsLong place = place ≡ in_ranges None
IsPlaceOfLimits (limits.Memory e) place = ⊥
IsPlaceOfLimits _ place = IsInRanges place

-- the flowchart's file declares an INPUT of this name
pub record DeclaresInput (plan name : List ℕ) : Type 0 where
  pub tree : ElementTree
  pub read : IsElements plan tree
  pub declared : IsTrue (has_name (map (λ d. d.name) tree.inputs) name)

-- an input without a limit stands in the flowchart's file, a limit of no input in the range file
pub record IsPlaceOfUnmatched (plan name : List ℕ) (place : PlanPlace) : Type 0 where
  pub input : DeclaresInput plan name → IsInPlan place
  pub none : ¬ (DeclaresInput plan name) → IsInRanges place

-- the place of a refusal of a plan whose flowchart's file has these bytes
abbrev pub IsPlaceOf : List ℕ → PlanRefusal → PlanPlace → Type 0
IsPlaceOf plan (refusals.Read fault) place = IsPlaceOfFault plan fault place
IsPlaceOf plan (refusals.Limits fault) place = IsPlaceOfLimits fault place
IsPlaceOf plan (refusals.LimitName name) place = IsPlaceOfUnmatched plan name place
IsPlaceOf plan (refusals.LimitKind name) place = IsInRanges place
IsPlaceOf plan (refusals.Bind name) place = IsInRanges place
IsPlaceOf plan refusals.Memory place = ⊥
IsPlaceOf plan _ place = IsInPlan place

-- what is wrong starts with one text where the flowchart's file declares an INPUT of this name, and else with another
pub record StartsByInput (plan name : List ℕ) (text : Bool → List ℕ) (wrong : List ℕ) : Type 0 where
  pub input : DeclaresInput plan name → StartsWith (text true) wrong
  pub none : ¬ (DeclaresInput plan name) → StartsWith (text false) wrong

-- what is wrong starts with the text of this refusal of a plan whose flowchart's file has these bytes
abbrev pub SaysWrong : List ℕ → PlanRefusal → List ℕ → Type 0
SaysWrong plan (refusals.LimitName name) wrong = StartsByInput plan name (limit_name_text name) wrong
SaysWrong plan (refusals.Bind name) wrong = StartsByInput plan name (binding_text name) wrong
SaysWrong plan refusal wrong = StartsWith (plan_refusal_text refusal) wrong

-- the text of a reason of this refusal
pub record IsReasonOf (plan : List ℕ) (refusal : PlanRefusal) (text : List ℕ) : Type 0 where
  pub reason : IsReason text
  pub says : SaysWrong plan refusal reason.wrong

-- the words begin with this place, a colon and a space, and go on with a reason of this refusal
abbrev pub GivesReasonAt : PlanFiles → PlanPlace → PlanRefusal → List ℕ → Type 0
GivesReasonAt files place refusal words =
    (text : List ℕ) × (IsReasonOf files.plan.bytes refusal text × (words ≡ words_at files place text))

-- the words begin with the place of this refusal, go on with its reason, and end with what helps where the refusal alone
-- decides that
pub record BeginsAtRefusal (files : PlanFiles) (refusal : PlanRefusal) (words : List ℕ) : Type 0 where
  pub place : PlanPlace
  pub is : IsPlaceOf files.plan.bytes refusal place
  pub begins : GivesReasonAt files place refusal words
  pub helps : IfSome (help_of refusal) (λ help. EndsWith (codes "; " ++ help) words)

-- what is said of a refused plan: one line that begins with the place of the refusal in the file in which it stands,
-- and goes on with a reason
pub record TellsPlan (files : PlanFiles) (words : List ℕ) : Type 0 where
  pub refusal : PlanRefusal
  pub refused : IsRefused files.plan.bytes files.ranges.bytes refusal
  pub line : IsOneLine words
  pub begins : BeginsAtRefusal files refusal words
