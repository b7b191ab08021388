-- The runs of one employee's calendar year, computed anew, in order of day.
use Rattle.std.specs.Prelude.{List, [], ◌∷◌, ◌++◌, Option, Some, None}
use Rattle.scaled_decimal.specs.Decimals.{Decimal}
use Rattle.payroll_records.specs.declared.day.Day.{Day}
use Rattle.payroll_records.specs.declared.record.Record.{Record}
use Rattle.payroll_records.specs.declared.values.NamedValue.{NamedValue}
use Rattle.plan_calendar.specs.Picking.{Entry, day_of, plan_of}
use Rattle.carry_bindings.specs.declared.carried.Earlier.{Earlier}
use Rattle.carry_bindings.specs.declared.filling.Filled.{Filled}
use Rattle.carry_bindings.specs.declared.filling.Filled.TheVariants as filling
use Rattle.pay_run.specs.Runs.{filled, run_outputs}
use Rattle.book_year.specs.Accepted.{Accepted}
use Rattle.book_year.specs.declared.outcome.State.{State}
use Rattle.book_year.specs.declared.outcome.State.TheVariants as state

-- the plan of each day, with the day from which it holds
abbrev pub Planned : Type 0
Planned = Day → Option (Entry Accepted)

-- what a run runs: its plan and its inputs
pub record Job : Type 0 where
  pub plan : Accepted
  pub inputs : List Decimal

-- the job of a plan on inputs
abbrev pub job_of : Accepted → List Decimal → Job
job_of p inputs = record { plan = p; inputs = inputs }

-- a run computed anew: its day, the day of its plan, its job where it has one, and its state
pub record Row : Type 0 where
  pub day : Day
  pub plan : Option Day
  pub job : Option Job
  pub state : State

-- a row of these parts
abbrev pub row_with : Day → Option Day → Option Job → State → Row
row_with d plan job s = record { day = d; plan = plan; job = job; state = s }

-- the run's outputs, where it has run
abbrev pub done_outputs : State → Option (List NamedValue)
done_outputs (state.Done outputs) = Some outputs
done_outputs _ = None

-- what later runs of the year read of a run on this day, which came to this state
abbrev pub read_of : Day → State → Earlier
read_of d s = record { day = d; outputs = done_outputs s }

-- what later runs of the year may read of a row
abbrev pub earlier_of : Row → Earlier
earlier_of row = read_of row.day row.state

-- a run with its plan and its inputs, or without inputs
abbrev pub row_filled : Entry Accepted → Day → Filled → Row
row_filled e d (filling.Inputs inputs) =
    let job = job_of (plan_of e) inputs in
    row_with d (Some (day_of e)) (Some job) (state.Done (run_outputs (plan_of e) inputs))
row_filled e d (filling.State why) = row_with d (Some (day_of e)) None (state.Blocked why)

-- a run, from its plan and the earlier runs of its year
abbrev pub row_of : Option (Entry Accepted) → List Earlier → Record → Row
row_of None earlier r = row_with r.day None None state.NoPlan
row_of (Some e) earlier r = row_filled e r.day (filled (plan_of e) r.values earlier)

-- the runs of a year after the earlier ones, each from those before it
abbrev pub rows : Planned → List Earlier → List Record → List Row
rows planned earlier [] = []
rows planned earlier (r ∷ rs) =
    let row = row_of (planned r.day) earlier r in
    row ∷ rows planned (earlier ++ earlier_of row ∷ []) rs

-- a year's runs
abbrev pub year_rows : Planned → List Record → List Row
year_rows planned records = rows planned [] records
