-- What the private contracts of this crate cite.
use Rattle.std.specs.Prelude.{ℕ, ◌≡◌, List, Result, Ok, Err, if◌then◌else◌}
use Rattle.std.specs.List.{AllByRecursion}
use Rattle.rising_lists.specs.Keyed.{IsRising}
use Rattle.payroll_records.specs.declared.month.Month.{Month}
use Rattle.payroll_records.specs.declared.record.Key.{Key}
use Rattle.payroll_records.specs.declared.record.Record.{Record}
use Rattle.payroll_records.specs.declared.when.When.TheVariants as when
use Rattle.payroll_records.specs.Tables.{key_of}
use Rattle.plan_calendar.specs.Picking.{Entry}
use Rattle.book_year.specs.Accepted.{Accepted}
use Rattle.book_year.specs.declared.outcome.Work.{Work}
use Rattle.book_year.specs.declared.year.Year.{Year}
use Rattle.book_year.specs.Jobs.{total_cost, work_of}
use Rattle.book_year.specs.Years.{IsYear}
use Rattle.book_edits.specs.declared.in_month.InMonth.{InMonth}
use Rattle.book_edits.specs.declared.in_month.InMonth.TheVariants.{Empty, One, Several}
use Rattle.book_edits.specs.declared.refusal.EditRefusal.{EditRefusal}
use Rattle.book_edits.specs.declared.refusal.EditRefusal.TheVariants as refusal
use Rattle.book_edits.specs.Books.{YearRuns, is_in_month, year_cmp}
use Rattle.book_edits.specs.Kept.{HasRuns, edit_jobs, kept_key, runs_in}

-- what is kept of each year, without their number
pub record AreKeptYears (plans : List (Entry Accepted)) (years : List Year) : Type 0 where
  pub rising : IsRising year_cmp kept_key years
  pub each : AllByRecursion (IsYear plans) years
  pub some : AllByRecursion HasRuns years

-- the runs are these now, and the work is that of the new jobs
pub record IsListEdit
    (plans : List (Entry Accepted)) (old new : List Year) (years : List YearRuns)
    (work : Work) : Type 0 where
  pub kept : AreKeptYears plans new
  pub years_are : runs_in new ≡ years
  pub work_is : work ≡ work_of (edit_jobs plans (runs_in old) years)

-- the runs are as they were, and so is what is kept of them
pub record IsSameList (plans : List (Entry Accepted)) (old new : List Year) : Type 0 where
  pub kept : AreKeptYears plans new
  pub years_are : runs_in new ≡ runs_in old

-- the cost of the jobs that are new where the runs become these
abbrev pub list_cost : List (Entry Accepted) → List Year → List YearRuns → ℕ
list_cost plans old years = total_cost (edit_jobs plans (runs_in old) years)

-- the key of the only run that an employee has in a month, or why there is none
abbrev pub only_key : InMonth → List ℕ → Month → Result Key EditRefusal
only_key Empty e m = Err (refusal.Absent e (when.Month m))
only_key (One k) e m = Ok k
only_key Several e m = Err (refusal.Several e m)

-- what is found in a month after one run more
abbrev pub one_more : InMonth → Record → InMonth
one_more Empty r = One (key_of r)
one_more (One k) r = Several
one_more Several r = Several

abbrev pub with_one_more : ℕ → InMonth → Record → InMonth
with_one_more month found r = if is_in_month month r.day then one_more found r else found
