-- What is kept of a year: what computing its runs anew gives.
use Rattle.std.specs.Prelude.{◌≡◌, ◌≤◌, List, Option, map, length}
use Rattle.std.specs.List.{AllByRecursion}
use Rattle.std.specs.Option.{option_map}
use Rattle.rising_lists.specs.Keyed.{IsRising}
use Rattle.payroll_records.specs.declared.day.Day.{Day}
use Rattle.payroll_records.specs.declared.record.Record.{Record}
use Rattle.payroll_records.specs.Orders.{day_cmp}
use Rattle.carry_bindings.specs.Conditions.{AreBounded}
pub use Rattle.carry_bindings.specs.Limits.{most_runs}
use Rattle.book_year.specs.declared.outcome.Outcome.{Outcome}
use Rattle.book_year.specs.declared.chain.Old.{Old}
use Rattle.book_year.specs.Records.{record_day}
use Rattle.book_year.specs.Rows.{Planned, Job, Row, year_rows, done_outputs}
use Rattle.book_year.specs.Jobs.{job_at}

-- what is kept of a run
abbrev pub kept : Row → Outcome
kept row =
    record { plan = row.plan; inputs = option_map (λ j. j.inputs) row.job; state = row.state }

-- the outputs are within the bound of outputs
abbrev pub IsBounded : Outcome → Type 0
IsBounded o = AreBounded (done_outputs o.state)

-- what is kept of a year is what computing it anew gives
pub record AreKept
    (planned : Planned) (records : List Record) (outcomes : List Outcome) : Type 0 where
  pub are : outcomes ≡ map kept (year_rows planned records)
  pub bounded : AllByRecursion IsBounded outcomes
  pub rising : IsRising day_cmp record_day records
  pub few : length records ≤ most_runs

-- what was kept before an edit is what computing its runs anew gives
abbrev pub IsOld : Planned → Old → Type 0
IsOld planned old = AreKept planned old.records.now old.outcomes.now

-- the job that a day had
abbrev pub job_by : Planned → List Record → Day → Option Job
job_by planned records d = job_at (year_rows planned records) d
