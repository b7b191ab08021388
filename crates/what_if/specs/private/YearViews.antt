-- What a year's runs came to, and what a trial of all years gives, two lists of the same runs side by side.
use Rattle.std.specs.Prelude.{◌≡◌, List, [], ◌∷◌, ◌++◌, length}
use Rattle.std.specs.List.{AllByRecursion, flat_map}
use Rattle.payroll_records.specs.declared.day.Day.{Day}
use Rattle.payroll_records.specs.declared.record.Record.{Record}
use Rattle.book_year.specs.declared.outcome.Outcome.{Outcome}
use Rattle.book_year.specs.declared.year.Year.{Year}
use Rattle.book_year.specs.Jobs.{work_of}
use Rattle.book_year.specs.Rows.{Planned}
use Rattle.book_edits.specs.declared.years.Years.{Years}
use Rattle.book_edits.specs.Books.{YearRuns}
use Rattle.book_edits.specs.Kept.{jobs_in, years_of}
use Rattle.recalc_engine.specs.private.BookLaws.{HasPlan}
use Rattle.recalc_engine.specs.MonthRows.{KeyedRow, keyed_rows}
use Rattle.recalc_engine.specs.RowLaws.{HaveNames}
use Rattle.what_if.specs.declared.trial.Trial.{Trial}
use Rattle.what_if.specs.declared.trial.TrialRow.{TrialRow}
use Rattle.what_if.specs.Changes.{run_changes, state_outputs}

-- the outputs have different names
abbrev pub IsNamed : Outcome → Type 0
IsNamed o = HaveNames (state_outputs o.state)

-- an outcome for each record
pub record AreOutcomesOf (records : List Record) (outcomes : List Outcome) : Type 0 where
  pub paired : length records ≡ length outcomes
  pub named : AllByRecursion IsNamed outcomes

abbrev pub HasOutcomes : Year → Type 0
HasOutcomes y = AreOutcomesOf y.records.items y.outcomes.items

-- the plan of each day, if there is one, is accepted
abbrev pub ArePlanned : Planned → Type 0
ArePlanned planned = (d : Day) → HasPlan (planned d)

-- the rows of all runs, one after another, where the second list has the runs of the first
abbrev pub changes : List KeyedRow → List KeyedRow → List TrialRow
changes [] after = []
changes (b ∷ before) [] = []
changes (b ∷ before) (a ∷ after) = run_changes b.key b.state a.state ++ changes before after

-- what differs between a year's runs where its days have the one plan or the other
abbrev pub year_changes : Planned → Planned → YearRuns → List TrialRow
year_changes before after y = changes (keyed_rows before y) (keyed_rows after y)

-- the rows of all years, and the work of the new jobs
pub record IsTried (before after : Planned) (years : Years) (trial : Trial) : Type 0 where
  pub rows : trial.rows ≡ flat_map (year_changes before after) (years_of years)
  pub work : trial.work ≡ work_of (jobs_in before after (years_of years) (years_of years))
