-- The parts of a job.
use Rattle.std.specs.Prelude.{◌≡◌, List, Option}
use Rattle.std.specs.Option.{option_map}
use Rattle.scaled_decimal.specs.Decimals.{Decimal}
use Rattle.payroll_records.specs.declared.day.Day.{Day}
use Rattle.payroll_records.specs.declared.values.NamedValue.{NamedValue}
use Rattle.carry_bindings.specs.declared.carried.Earlier.{Earlier}
use Rattle.carry_bindings.specs.declared.filling.Filled.TheVariants as filling
use Rattle.interval_walk.specs.Admission.{AreAdmitted}
use Rattle.pay_run.specs.Runs.{filled}
use Rattle.book_year.specs.declared.year.Year.{Year}
use Rattle.book_year.specs.Accepted.{Accepted}
use Rattle.book_year.specs.Rows.{Planned, Job}
use Rattle.book_year.specs.Kept.{AreKept, job_by}

-- the inputs of a job
abbrev pub job_inputs : Job → List Decimal
job_inputs j = j.inputs

-- these are the inputs of the day's run, whatever the calendar by which the year is kept
abbrev pub HasInputsOf : Year → Day → Option (List Decimal) → Type 0
HasInputsOf y d inputs =
    (planned : Planned) → AreKept planned y.records.items y.outcomes.items
    → inputs ≡ option_map job_inputs (job_by planned y.records.items d)

-- the plan admits these inputs, if they are those that it fills from some values after some runs
abbrev pub AdmitsWhatItFills : Accepted → List Decimal → Type 0
AdmitsWhatItFills p inputs =
    (values : List NamedValue) (earlier : List Earlier)
    → filled p values earlier ≡ filling.Inputs inputs
    → AreAdmitted p.meaning.flowchart p.meaning.limits inputs
