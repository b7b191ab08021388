-- What the calls along a year's runs promise.
use Rattle.std.specs.Prelude.{ℕ, ◌≡◌, ◌*◌, ◌≤◌, List, Option, map, length, take}
use Rattle.std.specs.List.{AllByRecursion}
use Rattle.std.specs.Borrow.{Bor}
use Rattle.pap_types.specs.Limits.{most_steps}
use Rattle.payroll_records.specs.declared.day.Day.{Day}
use Rattle.payroll_records.specs.declared.record.Record.{Record}
use Rattle.book_year.specs.declared.outcome.Outcome.{Outcome}
use Rattle.book_year.specs.declared.outcome.Work.{Work}
use Rattle.book_year.specs.declared.chain.Old.{Old}
use Rattle.book_year.specs.declared.chain.Recalculated.{Recalculated}
use Rattle.book_year.specs.declared.picks.Picks.{Picks}
use Rattle.book_year.specs.Records.{records_of}
use Rattle.book_year.specs.Rows.{Planned, Job, year_rows}
use Rattle.book_year.specs.Jobs.{new_jobs, total_cost, work_of}
use Rattle.book_year.specs.Kept.{IsBounded, kept, job_by}
use Rattle.book_year.specs.Picks.{planned_before, planned_after}

-- the first runs, so many, are as they were, and so are their plans
pub record KeepsFront (picks : Picks) (old : Old) (items : List (Bor Record)) (count : ℕ) : Type 0 where
  pub within : count ≤ length old.records.now
  pub records : take count (records_of items) ≡ take count old.records.now
  pub plans : AllByRecursion (λ r. planned_after picks r.day ≡ planned_before picks r.day) (take count old.records.now)

-- what a year computed anew came to, with the work of the jobs that aren't the old ones of their days
pub record AreNew
    (planned : Planned) (old : Day → Option Job) (records : List Record)
    (came : List Outcome) (took : Work) : Type 0 where
  pub outcomes : came ≡ map kept (year_rows planned records)
  pub bounded : AllByRecursion IsBounded came
  pub work : took ≡ work_of (new_jobs old (year_rows planned records))
  pub few : took.runs ≤ length records
  pub cheap : took.steps ≤ length records * most_steps

-- the outcomes of a recalculation are those of all records computed anew, and its work is that of the jobs
-- that are new
abbrev pub IsRecalculated : Planned → (Day → Option Job) → List Record → Recalculated → Type 0
IsRecalculated planned old records r = AreNew planned old records r.outcomes.items r.work

-- the jobs that a day had planned_before the edit
abbrev pub old_jobs : Picks → Old → Day → Option Job
old_jobs picks old = job_by (planned_before picks) old.records.now

-- the cost of the new jobs of these records
abbrev pub chain_cost : Picks → Old → List (Bor Record) → ℕ
chain_cost picks old items =
    total_cost (new_jobs (old_jobs picks old) (year_rows (planned_after picks) (records_of items)))

-- the runs of a year, computed anew with the plans planned_after an edit, come to this
abbrev pub IsChain : Picks → Old → List (Bor Record) → Recalculated → Type 0
IsChain picks old items r = IsRecalculated (planned_after picks) (old_jobs picks old) (records_of items) r
