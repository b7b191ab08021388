-- The jobs of a book's runs.
use Rattle.std.specs.Prelude.{◌≡◌, Option, Some, None, ⊤}
use Rattle.std.specs.Option.{option_and_then}
use Rattle.payroll_records.specs.declared.record.Key.{Key}
use Rattle.pap_plan.specs.Plans.{Admits}
use Rattle.book_year.specs.Accepted.{accepted}
use Rattle.book_year.specs.Rows.{Job, Row, done_outputs}
use Rattle.recalc_engine.specs.declared.job.Job.{Job as LentJob}
use Rattle.recalc_engine.specs.Contents.{Contents, row_at}

-- the job of a key's run, where it has one
abbrev pub job_of_key : Contents → Key → Option Job
job_of_key book k = option_and_then (λ row. row.job) (row_at book k)

-- what is lent of a job
abbrev pub lent_job : LentJob → Job
lent_job j = record { plan = accepted j.plan.now; inputs = j.inputs.now }

-- the plan admits the inputs
abbrev pub AdmitsInputs : LentJob → Type 0
AdmitsInputs j = Admits j.plan.now j.inputs.now

-- there is no such run, or it has no outputs
abbrev pub HasNoOutputs : Option Row → Type 0
HasNoOutputs None = ⊤
HasNoOutputs (Some row) = done_outputs row.state ≡ None
