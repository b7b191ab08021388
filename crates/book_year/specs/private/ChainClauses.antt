-- What private contracts cite beside the definitions of ChainClauses.
use Rattle.std.specs.Prelude.{ℕ, ◌≡◌, ◌+◌, ◌≤◌, ⊤, Bool, true, false, List, [], ◌∷◌, ◌++◌, Option, Some, None, take, Result, MatchResult}
use Rattle.std.specs.Option.{option_map}
use Rattle.std.specs.Borrow.{Bor}
use Rattle.scaled_decimal.specs.Decimals.{Decimal}
use Rattle.pap_types.specs.Limits.{most_steps}
use Rattle.payroll_records.specs.declared.day.Day.{Day}
use Rattle.payroll_records.specs.declared.record.Record.{Record}
use Rattle.payroll_records.specs.declared.values.NamedValue.{NamedValue}
use Rattle.plan_calendar.specs.Picking.{Entry, plan_of}
use Rattle.carry_bindings.specs.Conditions.{AreBounded}
use Rattle.carry_bindings.specs.declared.carried.Earlier.{Earlier}
use Rattle.pay_run.specs.Runs.{ReadsNothing, run_outputs}
use Rattle.book_year.specs.Accepted.{Accepted}
use Rattle.book_year.specs.declared.outcome.Outcome.{Outcome}
use Rattle.book_year.specs.declared.chain.Old.{Old}
use Rattle.book_year.specs.declared.chain.OldJob.{OldJob}
use Rattle.book_year.specs.declared.chain.Ran.{Ran}
use Rattle.book_year.specs.declared.chain.Rest.{Rest}
use Rattle.book_year.specs.declared.picks.Picks.{Picks}
use Rattle.book_year.specs.Records.{records_of}
use Rattle.book_year.specs.Rows.{Planned, Job, Row, done_outputs}
use Rattle.book_year.specs.Jobs.{new_job, work_of}
use Rattle.book_year.specs.Kept.{kept}
use Rattle.book_year.specs.Picks.{planned_before, planned_after}
use Rattle.book_year.specs.ChainClauses.{AreNew, old_jobs}

-- the plan of a day, if it has one, reads nothing of earlier runs
abbrev pub PlanReadsNothing : Option (Entry Accepted) → Type 0
PlanReadsNothing None = ⊤
PlanReadsNothing (Some e) = ReadsNothing (plan_of e)

-- the earlier runs where some plan reads them, and otherwise none
abbrev pub lent_if : Bool → List Earlier → List Earlier
lent_if true earlier = earlier
lent_if false earlier = []

-- the inputs and outputs of an outcome that has both
abbrev pub outcome_parts :
    Option (List Decimal) → Option (List NamedValue)
    → Option (List Decimal × List NamedValue)
outcome_parts None outputs = None
outcome_parts (Some inputs) None = None
outcome_parts (Some inputs) (Some outputs) = Some (inputs, outputs)

abbrev pub outcome_job : Outcome → Option (List Decimal × List NamedValue)
outcome_job o = outcome_parts o.inputs (done_outputs o.state)

abbrev pub old_parts : OldJob → List Decimal × List NamedValue
old_parts j = (j.inputs.now, j.outputs.now)

-- the job is that of the day's plan on these inputs, and these are its outputs
pub record HasJob (was : Option (Entry Accepted)) (job : Option Job) (old : OldJob) : Type 0 where
  pub plan : Accepted
  pub is : job ≡ Some (record { plan = plan; inputs = old.inputs.now })
  pub outputs : old.outputs.now ≡ run_outputs plan old.inputs.now
  pub planned : option_map plan_of was ≡ Some plan
  pub bounded : AreBounded (Some old.outputs.now)

abbrev pub IsOldJob : Option (Entry Accepted) → Option Job → Option OldJob → Type 0
IsOldJob was job None = job ≡ None
IsOldJob was job (Some old) = HasJob was job old

-- the outputs are there where the job isn't new, and they are its own
abbrev pub KeepsOutputs : List Job → Job → Option (Bor (List NamedValue)) → Type 0
KeepsOutputs new job None = new ≡ job ∷ []
KeepsOutputs new job (Some outputs) =
    (new ≡ []) × (outputs.now ≡ run_outputs job.plan job.inputs) × AreBounded (Some outputs.now)

-- a run came to this row, and was run where its job is new
pub record IsRan (row : Row) (old : Option Job) (ran : Ran) : Type 0 where
  pub outcome : ran.outcome ≡ kept row
  pub work : ran.work ≡ work_of (new_job old row.job)
  pub bounded : AreBounded (done_outputs row.state)
  pub one : ran.work.runs ≤ 1
  pub cheap : ran.work.steps ≤ most_steps

-- the counter rose by the steps of the work; where memory ran out, by none
abbrev pub CountsRun : {E : Type 0} → Result Ran E → ℕ → ℕ → Type 0
CountsRun r planned_before now = MatchResult r (λ ran. now ≡ planned_before + ran.work.steps) (λ _. now ≡ planned_before)

-- the same, where the first of these outcomes stay
abbrev pub IsRest :
    Planned → (Day → Option Job) → List Record → List Outcome → Rest → Type 0
IsRest planned old records was r =
    AreNew planned old records (take r.kept was ++ r.outcomes.items) r.work

abbrev pub IsChainRest : Picks → Old → List (Bor Record) → Rest → Type 0
IsChainRest picks old items r =
    IsRest (planned_after picks) (old_jobs picks old) (records_of items) old.outcomes.now r
