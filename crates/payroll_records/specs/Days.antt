-- Months and days of the calendar, and their written forms (ISO 8601: YYYY-MM and YYYY-MM-DD). Source: ISO
-- 8601; the days of the calendar are those of `jiff` (`IsDate`).
use Rattle.std.specs.Prelude.{◌≡◌, ℕ, ◌+◌, ◌/◌, ◌%◌, ◌≤◌, List, [], ◌∷◌, ◌++◌, pos}
use Rattle.jiff.specs.Words.{IsDate}

-- a year of a pay run
abbrev pub IsPayYear : ℕ → Type 0
IsPayYear year = (1900 ≤ year) × (year ≤ 2999)

-- a month of the calendar in such a year
pub record IsMonth (year month : ℕ) : Type 0 where
  pub years : IsPayYear year
  pub from : 1 ≤ month
  pub to : month ≤ 12

-- a day that the calendar has, in such a year
pub record IsDay (year month day : ℕ) : Type 0 where
  pub years : IsPayYear year
  pub exists : IsDate (pos year) (pos month) (pos day)

-- two digits, for a number below 100
abbrev pub two_digits : ℕ → List ℕ
two_digits n = (48 + n / 10) ∷ (48 + n % 10) ∷ []

-- a month as it is written: YYYY-MM
abbrev pub month_text : ℕ → ℕ → List ℕ
month_text year month = two_digits (year / 100) ++ two_digits (year % 100) ++ 45 ∷ two_digits month

-- a day as it is written: YYYY-MM-DD
abbrev pub day_text : ℕ → ℕ → ℕ → List ℕ
day_text year month day = month_text year month ++ 45 ∷ two_digits day

-- the text of a month: the calendar has the month, and it is written so
pub record IsMonthText (text : List ℕ) (year month : ℕ) : Type 0 where
  pub exists : IsMonth year month
  pub written : text ≡ month_text year month

-- the text of a day: the calendar has the day, and it is written so
pub record IsDayText (text : List ℕ) (year month day : ℕ) : Type 0 where
  pub exists : IsDay year month day
  pub written : text ≡ day_text year month day

-- the text is that of some month
abbrev pub IsMonthSpelled : List ℕ → Type 0
IsMonthSpelled text = (year : ℕ) × (month : ℕ) × IsMonthText text year month

-- the text is that of some day of the calendar
abbrev pub IsDaySpelled : List ℕ → Type 0
IsDaySpelled text = (year : ℕ) × (month : ℕ) × (day : ℕ) × IsDayText text year month day
