-- What is asked of single words: what each has to be, and the fault where it is not.
use Rattle.std.specs.Prelude.{◌≢◌, ◌==◌, ◌+◌, ℕ, List, [], ◌∷◌, ◌++◌, length, IsTrue, if◌then◌else◌}
use Rattle.std.specs.List.{AllByRecursion, before_first}
use Rattle.payroll_records.specs.Days.{IsDayText, IsMonthText, IsDaySpelled, IsMonthSpelled}
use Rattle.payroll_records.specs.Employees.{is_employee}
use Rattle.payroll_records.specs.Tables.{Text}
use Rattle.payroll_records.specs.ValueWords.{IsValueWord}
use Rattle.payroll_records.specs.declared.values.NamedValue.{NamedValue}
use Rattle.script_lang.specs.declared.fault.LineFault.{LineFault}
use Rattle.script_lang.specs.declared.fault.LineFault.TheVariants as fault

-- something that is asked of a word
pub data Field : Type 0 where
  -- the word is an employee, a month, a day
  employee : Text → Field
  month : Text → Field
  day : Text → Field
  -- in the month of the first word lies the day of the second
  day_in : Text → Text → Field
  -- the word of this number is NAME=VALUE
  value : ℕ → Text → Field
  -- none of the words before has the name of this one
  new_name : List Text → Text → Field

-- what stands before the first `=` of a word
abbrev pub name_in : Text → Text
name_in word = before_first (λ b. b == 61) word

-- the word is as the field asks
abbrev pub IsGood : Field → Type 0
IsGood (employee word) = IsTrue (is_employee word)
IsGood (month word) = IsMonthSpelled word
IsGood (day word) = IsDaySpelled word
IsGood (day_in first second) =
    (y : ℕ) × (m : ℕ) × (d : ℕ) × IsDayText second y m d × IsMonthText first y m
IsGood (value number word) = (v : NamedValue) × IsValueWord word v
IsGood (new_name before word) = AllByRecursion (λ other. name_in other ≢ name_in word) before

-- the fault of a line whose word isn't as the field asks
abbrev pub fault_of : Field → LineFault
fault_of (employee word) = fault.Employee
fault_of (month word) = fault.Month
fault_of (day word) = fault.Day
fault_of (day_in first second) = fault.Day
fault_of (value number word) = fault.Value number
fault_of (new_name before word) = fault.Twice (name_in word)

-- what is asked of a word for a month or a day: a word of 7 bytes is to be a month, any other a day
abbrev pub time_field : Text → Field
time_field word = if length word == 7 then month word else day word

-- what is asked of the words that mean a run: an employee, and a month or a day
abbrev pub run_fields : List Text → List Field
run_fields (who ∷ time ∷ []) = employee who ∷ time_field time ∷ []
run_fields _ = []

-- value words behind some others: each in turn is NAME=VALUE, and its name is new. The first value word of a line is its
-- fifth word.
abbrev pub value_fields : List Text → List Text → List Field
value_fields before [] = []
value_fields before (word ∷ words) =
    value (length before + 5) word ∷ new_name before word ∷ value_fields (before ++ (word ∷ [])) words

-- what is asked of the words of a pay run: an employee, a month, a day and values
abbrev pub record_fields : List Text → List Field
record_fields (who ∷ first ∷ second ∷ values) =
    employee who ∷ month first ∷ day_in first second ∷ value_fields [] values
record_fields _ = []
