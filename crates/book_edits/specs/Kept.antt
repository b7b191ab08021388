-- What is kept of all employees' runs, and what an edit of them promises.
use Rattle.std.specs.Prelude.{ℕ, ◌≡◌, ◌<◌, ◌≤◌, List, length, map, flat_map}
use Rattle.std.specs.List.{AllByRecursion}
use Rattle.rising_lists.specs.Keyed.{IsRising}
use Rattle.plan_calendar.specs.Picking.{Entry, pick}
use Rattle.book_year.specs.Accepted.{Accepted}
use Rattle.book_year.specs.declared.outcome.Work.{Work}
use Rattle.book_year.specs.declared.year.Year.{Year}
use Rattle.book_year.specs.declared.year.YearKey.{YearKey}
use Rattle.book_year.specs.Jobs.{total_cost, work_of}
use Rattle.book_year.specs.Rows.{Planned, Job}
use Rattle.book_year.specs.Years.{IsYear, year_jobs}
use Rattle.book_edits.specs.declared.years.Years.{Years}
use Rattle.book_edits.specs.Books.{AreInOrder, YearRuns, runs_of, run_count, year_cmp}
use Rattle.book_edits.specs.Refusals.{most_records}

-- a year that is kept, as its key and its records
abbrev pub runs_in_year : Year → YearRuns
runs_in_year y = record { key = y.key; runs = y.records.items }

-- the runs of the years that are kept
abbrev pub runs_in : List Year → List YearRuns
runs_in years = map runs_in_year years

-- all years that are kept, each as its key and its records
abbrev pub years_of : Years → List YearRuns
years_of ys = runs_in ys.list.items

-- the employee and the year of a year that is kept
abbrev pub kept_key : Year → YearKey
kept_key y = y.key

-- the year has a run
abbrev pub HasRuns : Year → Type 0
HasRuns y = 0 < length y.records.items

-- what is kept of each year is what computing its runs anew gives, where this is the calendar
pub record AreYears (plans : List (Entry Accepted)) (ys : Years) : Type 0 where
  pub rising : IsRising year_cmp kept_key ys.list.items
  pub each : AllByRecursion (IsYear plans) ys.list.items
  pub some : AllByRecursion HasRuns ys.list.items
  pub count : ys.count ≡ run_count (years_of ys)
  pub few : ys.count ≤ most_records

-- ---- the runs whose job is new

-- the jobs of these years that aren't the jobs of their runs in the old ones
abbrev pub jobs_in : Planned → Planned → List YearRuns → List YearRuns → List Job
jobs_in before after old years =
    flat_map (λ y. year_jobs before after (runs_of old y.key) y.runs) years

-- the jobs that an edit of the runs makes new, where this is the calendar
abbrev pub edit_jobs : List (Entry Accepted) → List YearRuns → List YearRuns → List Job
edit_jobs plans old new = jobs_in (pick plans) (pick plans) old new

-- the steps of the jobs that an edit of the runs makes new
abbrev pub edit_cost : List (Entry Accepted) → Years → List YearRuns → ℕ
edit_cost plans old new = total_cost (edit_jobs plans (years_of old) new)

-- ---- what an edit promises

-- the runs are these now, and the work is that of the new jobs
pub record IsYearsEdit
    (plans : List (Entry Accepted)) (old new : Years) (years : List YearRuns)
    (work : Work) : Type 0 where
  pub kept : AreYears plans new
  pub years_are : years_of new ≡ years
  pub work_is : work ≡ work_of (edit_jobs plans (years_of old) years)

-- the runs are as they were, and so is what is kept of them
pub record AreSameYears (plans : List (Entry Accepted)) (old new : Years) : Type 0 where
  pub kept : AreYears plans new
  pub years_are : years_of new ≡ years_of old

-- ---- a law

-- years that are kept stand in order
abbrev pub YearsAreInOrder : Type 0
YearsAreInOrder =
    (plans : List (Entry Accepted)) (ys : Years) → AreYears plans ys → AreInOrder (years_of ys)
