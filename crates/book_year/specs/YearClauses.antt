-- What the edits of a year promise.
use Rattle.std.specs.Prelude.{ℕ, ◌≡◌, ◌≤◌, ◌*◌, List}
use Rattle.pap_types.specs.Limits.{most_steps}
use Rattle.payroll_records.specs.declared.record.Record.{Record}
use Rattle.plan_calendar.specs.Picking.{Entry, pick}
use Rattle.book_year.specs.Accepted.{Accepted}
use Rattle.book_year.specs.declared.outcome.Work.{Work}
use Rattle.book_year.specs.declared.year.Year.{Year}
use Rattle.book_year.specs.declared.chain.Recalculated.{Recalculated}
use Rattle.book_year.specs.Jobs.{total_cost, work_of}
use Rattle.book_year.specs.Kept.{most_runs, job_by}
use Rattle.book_year.specs.ChainClauses.{IsRecalculated}
use Rattle.book_year.specs.declared.picks.Picks.{Picks}
use Rattle.book_year.specs.Picks.{planned_before, planned_after}
use Rattle.book_year.specs.Years.{IsYear, year_jobs}

-- the year has these records now, and the work is that of its new jobs
pub record IsYearEdit
    (plans : List (Entry Accepted)) (old new : Year) (records : List Record)
    (work : Work) : Type 0 where
  pub key : new.key ≡ old.key
  pub records_are : new.records.items ≡ records
  pub year : IsYear plans new
  pub work_is : work ≡ work_of (year_jobs (pick plans) (pick plans) old.records.items records)
  pub few : work.runs ≤ most_runs
  pub cheap : work.steps ≤ most_runs * most_steps

-- the year is as it was
pub record IsSameYear (old new : Year) : Type 0 where
  pub key : new.key ≡ old.key
  pub records : new.records.items ≡ old.records.items
  pub outcomes : new.outcomes.items ≡ old.outcomes.items

-- the cost of the jobs that are new where the year's records become these
abbrev pub edit_cost : List (Entry Accepted) → Year → List Record → ℕ
edit_cost plans old records =
    total_cost (year_jobs (pick plans) (pick plans) old.records.items records)

-- the year computed anew for an edit of the calendar, and the cost of the jobs that are new then
abbrev pub IsReplanned : Picks → Year → Recalculated → Type 0
IsReplanned picks y r =
    IsRecalculated (planned_after picks) (job_by (planned_before picks) y.records.items) y.records.items r

-- the steps of the jobs that the calendar's edit makes new in a year
abbrev pub replan_cost : Picks → Year → ℕ
replan_cost picks y =
    total_cost (year_jobs (planned_before picks) (planned_after picks) y.records.items y.records.items)
