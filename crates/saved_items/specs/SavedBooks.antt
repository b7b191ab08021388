-- A saved book as the tree of what it says, and its text (docs/PROFILE.md, "Saved books").
use Rattle.std.specs.Prelude.{◌≡◌, ℕ, ◌^◌, ◌<◌, ◌≤◌, List, [], ◌∷◌, ◌++◌, length, map, codes, IsTrue}
use Rattle.std.specs.List.{AllByRecursion, flat_map, join_with_byte}
use Rattle.rising_lists.specs.Keyed.{IsRising}
use Rattle.scaled_decimal.specs.Limits.{IsKept}
use Rattle.scaled_decimal.specs.PlainTexts.{plain_text, whole_text}
use Rattle.pap_tree.specs.Names.{is_name}
use Rattle.payroll_records.specs.Days.{day_text}
use Rattle.payroll_records.specs.Employees.{is_employee}
use Rattle.payroll_records.specs.NamedValues.{AreValues}
use Rattle.payroll_records.specs.Orders.{day_cmp, key_cmp}
use Rattle.payroll_records.specs.Tables.{Text, key_of}
use Rattle.payroll_records.specs.declared.day.Day.{Day}
use Rattle.payroll_records.specs.declared.record.Record.{Record}
use Rattle.payroll_records.specs.declared.values.NamedValue.{NamedValue}
use Rattle.payroll_records.specs.Limits.{most_records}
use Rattle.plan_calendar.specs.Limits.{most_plans}

-- a plan that holds from a day on: the text of the plan, and that of its range file
pub record SavedPlan : Type 0 where
  pub day : Day
  pub plan : Text
  pub limits : Text

-- how many runs the last work ran and in how many steps, the plans, and the runs' records
pub record Saved : Type 0 where
  pub runs : ℕ
  pub steps : ℕ
  pub plans : List SavedPlan
  pub records : List Record

-- a plan of a saved book of these parts
abbrev pub saved_plan : Day → Text → Text → SavedPlan
saved_plan day plan limits = record { day = day; plan = plan; limits = limits }

-- the day of a saved plan
abbrev pub saved_day : SavedPlan → Day
saved_day p = p.day

-- the work's numbers fit 64 bits
pub record IsWork (runs steps : ℕ) : Type 0 where
  pub runs_fit : runs < 2 ^ 64
  pub steps_fit : steps < 2 ^ 64

-- the days of the plans rise, and there are at most so many
pub record ArePlans (plans : List SavedPlan) : Type 0 where
  pub rising : IsRising day_cmp saved_day plans
  pub few : length plans ≤ most_plans

-- a value under a name, as a record keeps it
pub record IsValue (v : NamedValue) : Type 0 where
  pub named : IsTrue (is_name v.name)
  pub kept : IsKept v.value

-- a record of an employee, with at most so many values, whose names rise
pub record IsRun (r : Record) : Type 0 where
  pub employee : IsTrue (is_employee r.employee)
  pub values : AreValues r.values
  pub each : AllByRecursion IsValue r.values

-- the keys of the runs rise, and there are at most so many
pub record AreRuns (records : List Record) : Type 0 where
  pub rising : IsRising key_cmp key_of records
  pub each : AllByRecursion IsRun records
  pub few : length records ≤ most_records

-- a tree that has a text
pub record IsSaved (s : Saved) : Type 0 where
  pub work : IsWork s.runs s.steps
  pub plans : ArePlans s.plans
  pub records : AreRuns s.records

-- words with one space between each two, and a line feed
abbrev pub line_of_words : List Text → Text
line_of_words words = join_with_byte 32 words ++ (10 ∷ [])

-- a day as it is written
abbrev pub day_word : Day → Text
day_word d = day_text d.year d.month d.day

-- NAME=VALUE
abbrev pub value_word : NamedValue → Text
value_word v = v.name ++ (codes "=" ++ plain_text v.value)

-- the words of the first line of a saved book
abbrev pub title_words : List Text
title_words = codes "papbook" ∷ codes "1" ∷ []

-- the first line of a saved book
abbrev pub title_text : Text
title_text = line_of_words title_words

-- the words of the line with the last work
abbrev pub work_words : ℕ → ℕ → List Text
work_words runs steps = codes "work" ∷ whole_text runs ∷ whole_text steps ∷ []

-- the line with the runs and steps of the last work
abbrev pub work_text : ℕ → ℕ → Text
work_text runs steps = line_of_words (work_words runs steps)

-- the line that says how many plans there are
abbrev pub plan_count_text : ℕ → Text
plan_count_text count = line_of_words (codes "plans" ∷ whole_text count ∷ [])

-- the first three lines of a saved book
abbrev pub head_text : ℕ → ℕ → ℕ → Text
head_text runs steps count = title_text ++ (work_text runs steps ++ plan_count_text count)

-- the words of a plan's line: its day and the lengths of its two texts
abbrev pub plan_words : Day → ℕ → ℕ → List Text
plan_words day plan limits = codes "plan" ∷ day_word day ∷ whole_text plan ∷ whole_text limits ∷ []

-- a plan: a line with its day and the lengths of its texts, and both texts
abbrev pub saved_plan_text : SavedPlan → Text
saved_plan_text p =
    line_of_words (plan_words p.day (length p.plan) (length p.limits))
    ++ (p.plan ++ (p.limits ++ (10 ∷ [])))

-- the line that says how many runs there are
abbrev pub run_count_text : ℕ → Text
run_count_text count = line_of_words (codes "runs" ∷ whole_text count ∷ [])

-- the words of a pay run's line
abbrev pub run_words : Record → List Text
run_words r = codes "run" ∷ r.employee ∷ day_word r.day ∷ map value_word r.values

-- the line of a pay run
abbrev pub saved_run_text : Record → Text
saved_run_text r = line_of_words (run_words r)

-- the last line of a saved book
abbrev pub end_text : Text
end_text = line_of_words (codes "end" ∷ [])

-- the text of a saved book
abbrev pub saved_text : Saved → Text
saved_text s =
    head_text s.runs s.steps (length s.plans)
    ++ (flat_map saved_plan_text s.plans
    ++ (run_count_text (length s.records)
    ++ (flat_map saved_run_text s.records ++ end_text)))

-- the bytes are the text of this tree
pub record IsSavedText (bytes : Text) (s : Saved) : Type 0 where
  pub sound : IsSaved s
  pub text : bytes ≡ saved_text s
