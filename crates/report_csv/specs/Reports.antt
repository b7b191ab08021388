-- The report: a row for each output of a run that is ok, and one row for any other run. Source:
-- docs/PROFILE.md, "Reports".
use Rattle.std.specs.Prelude.{ℕ, List, [], ◌∷◌, ◌++◌, Option, Some, None, map, codes}
use Rattle.std.specs.List.{flat_map, join_with_byte}
use Rattle.scaled_decimal.specs.PlainTexts.{plain_text}
use Rattle.payroll_records.specs.declared.day.Day.{Day}
use Rattle.payroll_records.specs.declared.record.Key.{Key}
use Rattle.payroll_records.specs.declared.values.NamedValue.{NamedValue}
use Rattle.payroll_records.specs.Tables.{Text}
use Rattle.payroll_records.specs.Days.{day_text, month_text}
use Rattle.carry_bindings.specs.declared.filling.Blocked.{Blocked}
use Rattle.carry_bindings.specs.declared.filling.Blocked.TheVariants as blocked
use Rattle.book_year.specs.declared.outcome.State.{State}
use Rattle.book_year.specs.declared.outcome.State.TheVariants as state

-- the byte of a comma
abbrev pub comma : ℕ
comma = 44

-- the byte that ends a row
abbrev pub line_feed : ℕ
line_feed = 10

-- a row: its fields with commas between, and a line feed
abbrev pub row_line : List Text → Text
row_line fields = join_with_byte comma fields ++ line_feed ∷ []

-- the first row of a report
abbrev pub header : List Text
header =
    codes "employee" ∷ codes "month" ∷ codes "day" ∷ codes "plan" ∷ codes "state" ∷ codes "name" ∷ codes "value" ∷ []

-- the day from which a plan holds, and nothing where the run has no plan
abbrev pub plan_text : Option Day → Text
plan_text None = []
plan_text (Some d) = day_text d.year d.month d.day

-- what each row of a run begins with: the employee, the month, the day, and the day of the plan
abbrev pub run_front : Key → Option Day → List Text
run_front k plan =
    k.employee ∷ month_text k.day.year k.day.month ∷ day_text k.day.year k.day.month k.day.day
    ∷ plan_text plan ∷ []

-- a row: its first fields, its state, and a name with a value
abbrev pub row_fields : List Text → Text → Text → Text → List Text
row_fields front state name value = front ++ state ∷ name ∷ value ∷ []

-- why a run has no inputs: a word, and the day or the name that it is about
abbrev pub blocked_fields : List Text → Blocked → List Text
blocked_fields front (blocked.Waits d) =
    row_fields front (codes "waits") (day_text d.year d.month d.day) []
blocked_fields front (blocked.Unknown n) = row_fields front (codes "unknown") n []
blocked_fields front (blocked.Missing n) = row_fields front (codes "missing") n []
blocked_fields front (blocked.Range n) = row_fields front (codes "range") n []

-- the fields of an output's row: state `ok`, its name and its value
abbrev pub output_fields : List Text → NamedValue → List Text
output_fields front v = row_fields front (codes "ok") v.name (plain_text v.value)

-- the rows of a run: one for each of its outputs, in declared order, or one where it isn't ok, `noplan` where
-- it has no plan
abbrev pub state_rows : List Text → State → List (List Text)
state_rows front state.NoPlan = row_fields front (codes "noplan") [] [] ∷ []
state_rows front (state.Blocked why) = blocked_fields front why ∷ []
state_rows front (state.Done outputs) = map (output_fields front) outputs

-- the rows of a run
abbrev pub run_text : Key → Option Day → State → Text
run_text k plan s = flat_map row_line (state_rows (run_front k plan) s)
