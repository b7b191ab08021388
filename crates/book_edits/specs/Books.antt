-- The runs of all employees: which there are, and what an edit leaves. Nothing here says what is kept of a run.
use Rattle.std.specs.Prelude.{ℕ, ◌<◌, Bool, List, [], ◌∷◌, Option, Some, None, ◌==◌, if◌then◌else◌, is_some, filter, length, sum_by}
use Rattle.std.specs.List.{AllByRecursion}
use Rattle.std.specs.declared.cmp.Ordering.{Ordering}
use Rattle.std.specs.Ordering.{nat_cmp, then_cmp, on}
use Rattle.std.specs.Cmp.Lexicographic.{slice_cmp}
use Rattle.rising_lists.specs.Keyed.{at_key, put, without, IsRising}
use Rattle.payroll_records.specs.declared.day.Day.{Day}
use Rattle.payroll_records.specs.declared.record.Key.{Key}
use Rattle.payroll_records.specs.declared.record.Record.{Record}
use Rattle.payroll_records.specs.declared.when.When.{When}
use Rattle.payroll_records.specs.declared.when.When.TheVariants as when
use Rattle.payroll_records.specs.Orders.{day_cmp}
use Rattle.payroll_records.specs.Tables.{key_of}
use Rattle.book_year.specs.declared.year.YearKey.{YearKey}
use Rattle.book_year.specs.Records.{record_day, put_run, without_run}
use Rattle.book_edits.specs.declared.in_month.InMonth.{InMonth}
use Rattle.book_edits.specs.declared.in_month.InMonth.TheVariants.{Empty, One, Several}

-- an employee's calendar year, and its runs in order of day
pub record YearRuns : Type 0 where
  pub key : YearKey
  pub runs : List Record

-- the employee and the year of some runs
abbrev pub runs_key : YearRuns → YearKey
runs_key y = y.key

-- by employee, in the order of its bytes, then by year
abbrev pub year_cmp : YearKey → YearKey → Ordering
year_cmp = then_cmp (on (λ k. k.employee) (slice_cmp nat_cmp)) (on (λ k. k.year) nat_cmp)

-- the year in which a run stands
abbrev pub year_of : Key → YearKey
year_of k = record { employee = k.employee; year = k.day.year }

-- the runs of a year, and none of a year that isn't there
abbrev pub runs_or_none : Option YearRuns → List Record
runs_or_none None = []
runs_or_none (Some y) = y.runs

-- the runs of an employee's year
abbrev pub runs_of : List YearRuns → YearKey → List Record
runs_of years k = runs_or_none (at_key year_cmp runs_key years k)

-- the run of a key
abbrev pub run_at : List YearRuns → Key → Option Record
run_at years k = at_key day_cmp record_day (runs_of years (year_of k)) k.day

-- how many runs there are
abbrev pub run_count : List YearRuns → ℕ
run_count years = sum_by (λ y. length y.runs) years

-- the years rise, and in each the days of its runs; none is empty
pub record AreInOrder (years : List YearRuns) : Type 0 where
  pub rising : IsRising year_cmp runs_key years
  pub days : AllByRecursion (λ y. IsRising day_cmp record_day y.runs) years
  pub some : AllByRecursion (λ y. 0 < length y.runs) years

-- ---- edits

-- the years with these runs for one of them; a year without runs isn't there
abbrev pub with_runs : YearKey → List Record → List YearRuns → List YearRuns
with_runs k [] years = without year_cmp runs_key k years
with_runs k (r ∷ rs) years = put year_cmp runs_key (record { key = k; runs = r ∷ rs }) years

-- the years with one of them edited
abbrev pub with_edited_year : YearKey → (List Record → List Record) → List YearRuns → List YearRuns
with_edited_year k edit years = with_runs k (edit (runs_of years k)) years

-- a run put at its day
abbrev pub added : Record → List YearRuns → List YearRuns
added r years = with_edited_year (year_of (key_of r)) (put_run r) years

-- a run put in place of that of a day of its year
abbrev pub changed : Day → Record → List YearRuns → List YearRuns
changed from r years = with_edited_year (year_of (key_of r))
    (λ rs. put_run r (without_run from rs)) years

-- a run taken away
abbrev pub withdrawn : Key → List YearRuns → List YearRuns
withdrawn k years = with_edited_year (year_of k) (without_run k.day) years

-- several runs put, one after another
abbrev pub loaded : List Record → List YearRuns → List YearRuns
loaded [] years = years
loaded (r ∷ rs) years = loaded rs (added r years)

-- ---- the run that an edit means

-- the day lies in a month of this number
abbrev pub is_in_month : ℕ → Day → Bool
is_in_month month d = d.month == month

-- the key of the only run of a list, or that the list has none or several
abbrev pub only_one : List Record → InMonth
only_one [] = Empty
only_one (r ∷ []) = One (key_of r)
only_one (r ∷ (s ∷ more)) = Several

-- an employee's runs in a month
abbrev pub in_month : List YearRuns → List ℕ → ℕ → ℕ → InMonth
in_month years e year month =
    only_one (filter (λ r. is_in_month month r.day)
    (runs_of years (record { employee = e; year = year })))

-- the run that a change replaces: that of the record's day, or else the only one of its month
abbrev pub source_of : List YearRuns → Record → InMonth
source_of years r =
    if is_some (run_at years (key_of r)) then One (key_of r)
    else in_month years r.employee r.day.year r.day.month

-- the run that is withdrawn: that of the day, or the only one of the month
abbrev pub withdrawal : List YearRuns → List ℕ → When → InMonth
withdrawal years e (when.Day d) =
    let k : Key = record { employee = e; day = d } in
    if is_some (run_at years k) then One k else Empty
withdrawal years e (when.Month m) = in_month years e m.year m.month

-- the years after a change; as they were where none or several runs are meant
abbrev pub changed_from : InMonth → Record → List YearRuns → List YearRuns
changed_from (One k) r years = changed k.day r years
changed_from _ r years = years

-- the runs without the one that is meant; all runs where none or several are meant
abbrev pub withdrawn_from : InMonth → List YearRuns → List YearRuns
withdrawn_from (One k) years = withdrawn k years
withdrawn_from _ years = years
