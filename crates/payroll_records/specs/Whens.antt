-- How a month or a day is written where a line takes either.
use Rattle.std.specs.Prelude.{◌≡◌, ◌↔◌, ℕ, List}
use Rattle.payroll_records.specs.declared.when.When.{When}
use Rattle.payroll_records.specs.declared.when.When.TheVariants as when
use Rattle.payroll_records.specs.Days.{IsMonthText, IsDayText, month_text, day_text}

-- a month or a day as it is written
abbrev pub when_text : When → List ℕ
when_text (when.Month m) = month_text m.year m.month
when_text (when.Day d) = day_text d.year d.month d.day

-- the text of this month, of this day
abbrev pub IsWhenText : List ℕ → When → Type 0
IsWhenText text (when.Month m) = IsMonthText text m.year m.month
IsWhenText text (when.Day d) = IsDayText text d.year d.month d.day

-- the text of a month or a day is that of no other
abbrev pub WhensAreKnownByTexts : Type 0
WhensAreKnownByTexts = (a b : When) → IsWhenText (when_text a) b ↔ (a ≡ b)
