-- The work of an edit fits 64 bits: each of at most 50,000 runs takes at most 1,000,000,000 steps.
use Rattle.std.proofs.Common.{◌≡◌, ℕ, ◌+◌, ◌*◌, ◌≤◌, List, [], ◌∷◌, ◌++◌, length, true, false, if◌then◌else◌, sym, arith, length-append}
use Rattle.std.specs.Prelude.{Option, Some, None}
use Rattle.std.proofs.lemmas.List.Sums.{sum_by-cons}
use Rattle.scaled_decimal.specs.Decimals.{Decimal}
use Rattle.payroll_records.specs.declared.day.Day.{Day}
use Rattle.payroll_records.specs.declared.record.Record.{Record}
use Rattle.plan_calendar.specs.Picking.{Entry, pick, plan_of}
use Rattle.carry_bindings.specs.declared.carried.Earlier.{Earlier}
use Rattle.carry_bindings.specs.declared.filling.Filled.{Filled}
use Rattle.carry_bindings.specs.declared.filling.Filled.TheVariants as filling
use Rattle.pap_types.proofs.Laws.{cost_at_most}
use Rattle.call_order.proofs.Laws.{bound_small}
use Rattle.pap_plan.proofs.Laws.{counted}
use Rattle.pay_run.specs.Runs.{filled, run_cost}
use Rattle.pap_types.specs.Limits.{most_steps}
use Rattle.pay_run.proofs.Laws.{cost_is}
use Rattle.saved_items.specs.SavedBooks.{IsWork}
use Rattle.book_year.specs.Accepted.{Accepted}
use Rattle.book_year.specs.Jobs.{job_cost, new_job, new_jobs, same_job, total_cost}
use Rattle.book_year.specs.Kept.{job_by}
use Rattle.book_year.specs.Rows.{Job, Planned, earlier_of, row_filled, row_of, rows, year_rows}
use Rattle.book_year.proofs.Laws.{total_append}
use Rattle.book_edits.specs.Books.{YearRuns, run_count, runs_of}
use Rattle.book_edits.specs.Kept.{jobs_in}
use Rattle.recalc_engine.specs.private.BookLaws.{HasPlan}
use Rattle.recalc_engine.specs.BookLaws.{IsAcceptedPlan}
use Rattle.recalc_engine.specs.Contents.{Contents, jobs_between}

-- ---- a run of an accepted plan

run_cheap : (p : Accepted) (inputs : List Decimal) → IsAcceptedPlan p → run_cost p inputs ≤ most_steps
run_cheap p inputs h =
    let f = p.meaning.flowchart in
    let ordered = h.bound.suited.named.file.ordered in
    omega (
      arith,
      sym (cost_is p inputs),
      cost_at_most f inputs,
      bound_small f ordered.ordered.0 (counted p.plan f ordered.typed.text) ordered.ordered.1,
    )

-- ---- new jobs: at most one of each row, of the plan of its day

-- so many jobs at most, and each is cheap
pub record AreCheap (count : ℕ) (jobs : List Job) : Type 0 where
  pub few : length jobs ≤ count
  pub cheap : total_cost jobs ≤ count * most_steps

no_jobs : AreCheap 1 []
no_jobs = record { few = omega arith; cheap = omega arith }

cheap_both : (m n count : ℕ) (xs ys : List Job) → count ≡ m + n → AreCheap m xs → AreCheap n ys
    → AreCheap count (xs ++ ys)
cheap_both m n count xs ys e h k = record {
  few = omega (arith, e, length-append xs ys, h.few, k.few);
  cheap = omega (arith, e, total_append xs ys, h.cheap, k.cheap);
}

cheap_one : (j : Job) → IsAcceptedPlan j.plan → AreCheap 1 (j ∷ [])
cheap_one j h = record {
  few = omega arith;
  cheap = omega (arith, sum_by-cons job_cost j [], run_cheap j.plan j.inputs h);
}

-- the plan of a job, where there is one, is accepted
abbrev HasJobPlan : Option Job → Type 0
HasJobPlan None = Unit {0}
HasJobPlan (Some j) = IsAcceptedPlan j.plan

new_cheap : (old new : Option Job) → HasJobPlan new → AreCheap 1 (new_job old new)
new_cheap old None h = no_jobs
new_cheap None (Some j) h = cheap_one j h
new_cheap (Some i) (Some j) h = elim (same_job i j) as (λ b. AreCheap 1 (if b then [] else j ∷ [])) [
  | true ↦ no_jobs
  | false ↦ cheap_one j h
]

filled_plan : (e : Entry Accepted) (d : Day) (f : Filled) → IsAcceptedPlan (plan_of e) → HasJobPlan (row_filled e d f).job
filled_plan e d (filling.Inputs inputs) h = h
filled_plan e d (filling.State why) h = tt

row_plan : (o : Option (Entry Accepted)) (earlier : List Earlier) (r : Record) → HasPlan o
    → HasJobPlan (row_of o earlier r).job
row_plan None earlier r h = tt
row_plan (Some e) earlier r h = filled_plan e r.day (filled (plan_of e) r.values earlier) h

module _ (planned : Planned) (all : (d : Day) → HasPlan (planned d)) where
  rows_cheap : (old : Day → Option Job) (earlier : List Earlier) (rs : List Record)
      → AreCheap (length rs) (new_jobs old (rows planned earlier rs))
  rows_cheap old earlier [] = record { few = omega arith; cheap = omega arith }
  rows_cheap old earlier (r ∷ rs) =
      let row = row_of (planned r.day) earlier r in
      let next = earlier ++ earlier_of row ∷ [] in
      cheap_both 1 (length rs) (length (r ∷ rs)) (new_job (old row.day) row.job) (new_jobs old (rows planned next rs))
      (omega arith) (new_cheap (old row.day) row.job (row_plan (planned r.day) earlier r (all r.day)))
      (rows_cheap old next rs)

  years_cheap : (before : Planned) (old years : List YearRuns)
      → AreCheap (run_count years) (jobs_in before planned old years)
  years_cheap before old [] = record { few = omega arith; cheap = omega arith }
  years_cheap before old (y ∷ years) =
      let was = job_by before (runs_of old y.key) in
      cheap_both (length y.runs) (run_count years) (run_count (y ∷ years)) (new_jobs was (year_rows planned y.runs))
      (jobs_in before planned old years) (sum_by-cons (λ (y : YearRuns). length y.runs) y years)
      (rows_cheap was [] y.runs) (years_cheap before old years)

-- ---- the work of an edit

pub work_fits : (old new : Contents) → ((d : Day) → HasPlan (pick new.plans d)) → run_count new.years ≤ 50000
    → IsWork (length (jobs_between old new)) (total_cost (jobs_between old new))
work_fits old new all few =
    let h = years_cheap (pick new.plans) all (pick old.plans) old.years new.years in record {
      runs_fit = omega (arith, h.few, few);
      steps_fit = omega (arith, h.cheap, few);
    }
