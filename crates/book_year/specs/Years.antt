-- An employee's calendar year of runs, and an edit of it.
use Rattle.std.specs.Prelude.{◌≡◌, List, []}
use Rattle.std.specs.List.{AllByRecursion}
use Rattle.rising_lists.specs.Keyed.{IsRising}
use Rattle.payroll_records.specs.declared.record.Record.{Record}
use Rattle.payroll_records.specs.Orders.{day_cmp}
use Rattle.plan_calendar.specs.Picking.{Entry, pick}
use Rattle.book_year.specs.Accepted.{Accepted}
use Rattle.book_year.specs.declared.year.Year.{Year}
use Rattle.book_year.specs.declared.year.YearKey.{YearKey}
use Rattle.book_year.specs.Records.{record_day}
use Rattle.book_year.specs.Rows.{Planned, Job, year_rows}
use Rattle.book_year.specs.Jobs.{new_jobs}
use Rattle.book_year.specs.Kept.{AreKept, job_by}

-- the record is one of this employee's year
pub record IsOwn (key : YearKey) (r : Record) : Type 0 where
  pub employee : r.employee ≡ key.employee
  pub year : r.day.year ≡ key.year

-- what is kept of an employee's year, where this is the calendar
pub record IsYear (plans : List (Entry Accepted)) (y : Year) : Type 0 where
  pub kept : AreKept (pick plans) y.records.items y.outcomes.items
  pub own : AllByRecursion (IsOwn y.key) y.records.items

-- the jobs that are new where the year's records become these
abbrev pub year_jobs : Planned → Planned → List Record → List Record → List Job
year_jobs before after old new = new_jobs (job_by before old) (year_rows after new)

-- where neither the plans nor the records of a year change, no job is new
abbrev pub YearsStay : Type 0
YearsStay =
    (planned : Planned) (records : List Record) → IsRising day_cmp record_day records
    → year_jobs planned planned records records ≡ []

-- the runs of a year depend on the plans of its own days alone
abbrev pub YearsFollowPlans : Type 0
YearsFollowPlans =
    (p q : Planned) (records : List Record) → AllByRecursion (λ r. p r.day ≡ q r.day) records
    → year_rows p records ≡ year_rows q records
