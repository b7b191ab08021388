-- Why a run has no inputs, in words, what helps, and in which file of its plan that stands.
use Rattle.std.specs.Prelude.{◌≡◌, ℕ, List, ◌++◌, codes, None, ◌==◌, nat_lt, if◌then◌else◌}
use Rattle.std.specs.Fmt.{decimal}
use Rattle.std.specs.Ordering.{is_gt}
use Rattle.scaled_decimal.specs.Decimals.{Decimal, scale_of, value_order}
use Rattle.scaled_decimal.specs.PlainTexts.{plain_text}
use Rattle.payroll_records.specs.Days.{day_text}
use Rattle.limits_file.specs.declared.limits.InputLimit.{InputLimit}
use Rattle.carry_bindings.specs.declared.filling.Blocked.{Blocked}
use Rattle.carry_bindings.specs.declared.filling.Blocked.TheVariants as blocked
use Rattle.plain_words.specs.declared.state.RunReason.{RunReason}
use Rattle.plain_words.specs.declared.state.RunReason.TheVariants as reasons
use Rattle.plain_words.specs.Places.{PlanFiles, PlanPlace, in_plan, words_at}
use Rattle.plain_words.specs.Refusals.{IsInPlan, IsInRanges}

-- the answer for a run without inputs that this reason tells more of
abbrev pub blocked_by : RunReason → Blocked
blocked_by (reasons.Waits day) = blocked.Waits day
blocked_by (reasons.Unknown name) = blocked.Unknown name
blocked_by (reasons.Carried name) = blocked.Unknown name
blocked_by (reasons.Missing name) = blocked.Missing name
blocked_by (reasons.Outside name value limit) = blocked.Range name

-- the noun behind so many digits
abbrev pub digits_noun : ℕ → List ℕ
digits_noun count = if count == 1 then codes "digit" else codes "digits"

-- what a value that doesn't fit a range breaks of it: it has more digits after its point than places; else it is below the
-- low; else it is above the high
abbrev pub outside_text : Decimal → InputLimit → List ℕ
outside_text value limit =
    if nat_lt limit.places (scale_of value)
    then codes " has " ++ (decimal (scale_of value) ++ (codes " " ++ (digits_noun (scale_of value)
    ++ (codes " after its point, and its entry takes at most " ++ decimal limit.places))))
    else (if is_gt (value_order limit.low value) then codes " is below its low " ++ plain_text limit.low
    else codes " is above its high " ++ plain_text limit.high)

-- the value of an input
abbrev pub input_value_text : List ℕ → Decimal → List ℕ
input_value_text name value = codes "the value " ++ (plain_text value ++ (codes " of the input " ++ name))

-- why a run has no inputs, in words
abbrev pub state_text : RunReason → List ℕ
state_text (reasons.Waits day) =
    codes "the run waits, since an input carries over from the employee's earlier runs of the year and the run of "
    ++ (day_text day.year day.month day.day ++ codes " isn't ok")
state_text (reasons.Unknown name) =
    codes "a value is given for " ++ (name ++ codes ", and the plan has no such input")
state_text (reasons.Carried name) =
    codes "a value is given for " ++ (name ++ (codes ", an input that the entry [bind."
    ++ (name ++ codes "] fills from earlier runs")))
state_text (reasons.Missing name) = codes "the input " ++ (name ++ codes " has no value")
state_text (reasons.Outside name value limit) = input_value_text name value ++ outside_text value limit

-- what helps against that
abbrev pub state_help : RunReason → List ℕ
state_help (reasons.Waits day) = codes "mend that run first"
state_help (reasons.Unknown name) = codes "leave the value out, or correct its name"
state_help (reasons.Carried name) = codes "leave the value out"
state_help (reasons.Missing name) = codes "give one as NAME=VALUE or in the table, or write a default at its INPUT"
state_help (reasons.Outside name value limit) =
    codes "correct the value, or widen the input's entry and check the plan again"

-- an input without a value stands in the flowchart's file, one outside its range and one that carries in the range file
abbrev pub IsPlaceOfState : RunReason → PlanPlace → Type 0
IsPlaceOfState (reasons.Waits day) place = place ≡ in_plan None
IsPlaceOfState (reasons.Unknown name) place = place ≡ in_plan None
IsPlaceOfState (reasons.Carried name) place = IsInRanges place
IsPlaceOfState (reasons.Missing name) place = IsInPlan place
IsPlaceOfState (reasons.Outside name value limit) place = IsInRanges place

-- the words are the place of this reason, why the run has no inputs, and what helps
pub record SaysState (files : PlanFiles) (reason : RunReason) (words : List ℕ) : Type 0 where
  pub place : PlanPlace
  pub is : IsPlaceOfState reason place
  pub says : words ≡ words_at files place (state_text reason ++ (codes "; " ++ state_help reason))
