-- Which runs an edit has to run, and their cost.
use Rattle.std.specs.Prelude.{ℕ, ◌≡◌, ◌+◌, ◌≤◌, List, [], ◌∷◌, flat_map, Option, Some, None, option_and_then, Bool, ◌&&◌, if◌then◌else◌, nat_eq, sum_by, length, Result, Ok, Err}
use Rattle.std.specs.Ordering.{int_eq}
use Rattle.std.specs.Str.{bytes_eq}
use Rattle.std.specs.Cmp.Lexicographic.{pointwise}
use Rattle.scaled_decimal.specs.Decimals.{Decimal, numerator_of, scale_of}
use Rattle.rising_lists.specs.Keyed.{at_key}
use Rattle.payroll_records.specs.declared.day.Day.{Day}
use Rattle.payroll_records.specs.Orders.{day_cmp}
use Rattle.pay_run.specs.Runs.{run_cost}
use Rattle.book_year.specs.Accepted.{Accepted}
use Rattle.book_year.specs.declared.outcome.Work.{Work}
use Rattle.book_year.specs.Rows.{Job, Row}

-- two plans have the same texts
abbrev pub has_texts : Accepted → Accepted → Bool
has_texts p q = bytes_eq p.plan q.plan && bytes_eq p.limits q.limits

-- two decimals have the same numerator and the same scale
abbrev pub same_decimal : Decimal → Decimal → Bool
same_decimal a b = int_eq (numerator_of a) (numerator_of b) && nat_eq (scale_of a) (scale_of b)

-- the inputs are the same one by one, numerator and scale
abbrev pub same_inputs : List Decimal → List Decimal → Bool
same_inputs a b = pointwise same_decimal a b

-- two jobs have the same texts and the same inputs
abbrev pub same_job : Job → Job → Bool
same_job i j = has_texts i.plan j.plan && same_inputs i.inputs j.inputs

-- the job, where it isn't the old one
abbrev pub new_job : Option Job → Option Job → List Job
new_job old None = []
new_job None (Some j) = j ∷ []
new_job (Some i) (Some j) = if same_job i j then [] else j ∷ []

-- the job of a day
abbrev pub job_at : List Row → Day → Option Job
job_at rows d = option_and_then (λ row. row.job) (at_key day_cmp (λ row. row.day) rows d)

-- the jobs of these runs that aren't the old job of their day
abbrev pub new_jobs : (Day → Option Job) → List Row → List Job
new_jobs old rows = flat_map (λ row. new_job (old row.day) row.job) rows

-- the steps of a job's run
abbrev pub job_cost : Job → ℕ
job_cost j = run_cost j.plan j.inputs

-- the sum of the steps of some jobs
abbrev pub total_cost : List Job → ℕ
total_cost jobs = sum_by job_cost jobs

-- the work of some jobs: how many they are, and the steps that they take
abbrev pub work_of : List Job → Work
work_of jobs = record { runs = length jobs; steps = total_cost jobs }

-- a counter rose by exactly so many steps where it went well, and by at most so many where memory ran out
abbrev pub Counts : {T E : Type 0} → Result T E → ℕ → ℕ → ℕ → Type 0
Counts (Ok x) before now total = now ≡ before + total
Counts (Err e) before now total = (before ≤ now) × (now ≤ before + total)
