-- What an edit of the calendar promises: the runs stay, and what is kept of them is what the new calendar gives.
use Rattle.std.specs.Prelude.{ℕ, ◌≡◌, ◌+◌, ◌<◌, List, IsSome, IsNone, length}
use Rattle.payroll_records.specs.declared.day.Day.{Day}
pub use Rattle.plan_calendar.specs.Limits.{most_plans}
use Rattle.plan_calendar.specs.Picking.{Entry, pick, entry_at}
use Rattle.book_year.specs.Accepted.{Accepted}
use Rattle.book_year.specs.declared.outcome.Work.{Work}
use Rattle.book_year.specs.Jobs.{total_cost, work_of}
use Rattle.book_year.specs.Rows.{Job}
use Rattle.book_edits.specs.declared.years.Years.{Years}
use Rattle.book_edits.specs.declared.refusal.EditRefusal.{EditRefusal}
use Rattle.book_edits.specs.declared.refusal.EditRefusal.TheVariants as refusal
use Rattle.book_edits.specs.Books.{YearRuns}
use Rattle.book_edits.specs.Kept.{AreYears, jobs_in, years_of}

-- the jobs that are new where the calendar becomes this one and the runs stay
abbrev pub replan_jobs : List (Entry Accepted) → List (Entry Accepted) → List YearRuns → List Job
replan_jobs old new years = jobs_in (pick old) (pick new) years years

-- the steps of the jobs that another calendar makes new
abbrev pub replan_cost : List (Entry Accepted) → List (Entry Accepted) → Years → ℕ
replan_cost old new years = total_cost (replan_jobs old new (years_of years))

-- the plans are these now, the runs are the same, and the work is that of the new jobs
pub record IsReplan
    (plans : List (Entry Accepted)) (years : Years)
    (plans' : List (Entry Accepted)) (years' : Years)
    (wanted : List (Entry Accepted)) (work : Work) : Type 0 where
  pub plans_are : plans' ≡ wanted
  pub years_are : years_of years' ≡ years_of years
  pub kept : AreYears plans' years'
  pub work_is : work ≡ work_of (replan_jobs plans wanted (years_of years))

-- ---- refusals

-- no plan has that day, and with one more there would be too many
pub record HasMostPlans (plans : List (Entry Accepted)) (day : Day) : Type 0 where
  pub free : IsNone (entry_at plans day)
  pub full : most_plans < length plans + 1

-- this stands against putting a plan at a day: there are as many plans as a calendar may have; memory may run
-- out only where there aren't
abbrev pub IsPutRefused : List (Entry Accepted) → Day → EditRefusal → Type 0
IsPutRefused plans day refusal.Plans = HasMostPlans plans day
IsPutRefused plans day (refusal.Memory e) = HasMostPlans plans day → ⊥
IsPutRefused plans day _ = ⊥

-- this stands against dropping the plan of a day: that day has no plan; memory may run out only where it has one
abbrev pub IsDropRefused : List (Entry Accepted) → Day → EditRefusal → Type 0
IsDropRefused plans day (refusal.NoPlanThere d) = (d ≡ day) × IsNone (entry_at plans day)
IsDropRefused plans day (refusal.Memory e) = IsSome (entry_at plans day)
IsDropRefused plans day _ = ⊥
