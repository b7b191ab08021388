-- What the trace of every safe run has, and of every run of a book.
use Rattle.std.specs.Prelude.{◌≡◌, ℕ, if◌then◌else◌, List, [], ◌∷◌, map, Option, Some, None, unwrap_or, Ok}
use Rattle.std.specs.Option.{option_or}
use Rattle.std.specs.Str.{bytes_eq}
use Rattle.scaled_decimal.specs.Decimals.{Decimal}
use Rattle.pap_tree.specs.Flowchart.{Flowchart}
use Rattle.pap_types.specs.Scopes.{first_value}
use Rattle.pap_types.specs.Meaning.{outputs_of}
use Rattle.payroll_records.specs.declared.record.Key.{Key}
use Rattle.payroll_records.specs.declared.values.NamedValue.{NamedValue}
use Rattle.payroll_records.specs.declared.when.When.{When}
use Rattle.pay_run.specs.Runs.{named_values}
use Rattle.book_year.specs.declared.outcome.State.TheVariants as state
use Rattle.book_year.specs.Rows.{Job, Row}
use Rattle.book_edits.specs.declared.in_month.InMonth.TheVariants.{One}
use Rattle.recalc_engine.specs.BookLaws.{HaveKeptValues, IsBook}
use Rattle.recalc_engine.specs.Contents.{Contents, row_at}
use Rattle.recalc_engine.specs.Jobs.{job_of_key}
use Rattle.month_trace.specs.BookTraces.{run_meant, trace_said}
use Rattle.month_trace.specs.declared.step.TraceStep.{TraceStep}
use Rattle.month_trace.specs.declared.step.TraceStep.TheVariants.{Set, Test, Enter}
use Rattle.month_trace.specs.Traces.{trace_of}

-- the value that a step puts into the variable of a name
abbrev pub value_set : List ℕ → TraceStep → Option Decimal
value_set x (Set m n y v) = if bytes_eq x y then Some v else None
value_set x (Test m n holds) = None
value_set x (Enter m n callee) = None

-- the value that the last of the steps puts there, or none where none does
abbrev pub last_set : List ℕ → List TraceStep → Option Decimal
last_set x [] = None
last_set x (s ∷ steps) = option_or (last_set x steps) (value_set x s)

-- the values of the outputs behind a trace: the last that was put, else what it began with
abbrev pub outputs_behind : Flowchart → List TraceStep → List Decimal
outputs_behind f steps = map (λ d. unwrap_or (last_set d.name steps) (first_value d)) f.outputs

-- the run has one trace
pub record HasOneTrace (f : Flowchart) (inputs : List Decimal) : Type 0 where
  pub steps : List TraceStep
  pub are : trace_of f inputs ≡ Some steps
  pub only : (others : List TraceStep) → trace_of f inputs ≡ Some others → others ≡ steps

-- the run's outputs are those that stand behind its trace
abbrev pub TellsOutputs : Flowchart → List Decimal → Type 0
TellsOutputs f inputs =
    (steps : List TraceStep) → trace_of f inputs ≡ Some steps → outputs_of f inputs ≡ Some (outputs_behind f steps)

-- ---- the runs of a book

-- the run is done, with these outputs
abbrev pub IsDoneWith : List NamedValue → Option Row → Type 0
IsDoneWith outputs None = ⊥
IsDoneWith outputs (Some row) = row.state ≡ state.Done outputs

-- the run of a key has a trace of this flowchart, and is done with the values that stand behind it
pub record EndsInReport
    (book : Contents) (e : List ℕ) (w : When) (k : Key) (f : Flowchart) : Type 0 where
  pub steps : List TraceStep
  pub told : trace_said book e w ≡ Ok steps
  pub done : IsDoneWith (named_values f.outputs (outputs_behind f steps)) (row_at book k)

-- each run that is meant and has a job has a trace, and is done with the values that stand behind it
abbrev pub TracesEndInReports : Type 0
TracesEndInReports =
    (book : Contents) (e : List ℕ) (w : When) (k : Key) (j : Job) → IsBook book → HaveKeptValues book
    → run_meant book e w ≡ One k → job_of_key book k ≡ Some j
    → EndsInReport book e w k j.plan.meaning.flowchart
