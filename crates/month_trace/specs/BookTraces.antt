-- The trace of a run of a book, or why there is none.
use Rattle.std.specs.Prelude.{◌≡◌, ℕ, List, option_and_then, Result, Ok, Err, IsOk}
use Rattle.std.specs.Option.{ok_or}
use Rattle.payroll_records.specs.declared.record.Key.{Key}
use Rattle.payroll_records.specs.declared.when.When.{When}
use Rattle.payroll_records.specs.declared.when.When.TheVariants as when
use Rattle.book_year.specs.Rows.{Job}
use Rattle.book_edits.specs.declared.in_month.InMonth.{InMonth}
use Rattle.book_edits.specs.declared.in_month.InMonth.TheVariants.{One, Several}
use Rattle.book_edits.specs.Books.{withdrawal}
use Rattle.recalc_engine.specs.Contents.{Contents}
use Rattle.recalc_engine.specs.Jobs.{job_of_key}
use Rattle.month_trace.specs.declared.refusal.TraceRefusal.{TraceRefusal}
use Rattle.month_trace.specs.declared.refusal.TraceRefusal.TheVariants as refusal
use Rattle.month_trace.specs.declared.step.TraceStep.{TraceStep}
use Rattle.month_trace.specs.Traces.{Trace, trace_of}

-- the run that is meant: that of the day, or the only one of the month
abbrev pub run_meant : Contents → List ℕ → When → InMonth
run_meant book e w = withdrawal book.years e w

-- the key of the run that is meant, or why no run is meant
abbrev pub key_meant : List ℕ → When → InMonth → Result Key TraceRefusal
key_meant e w (One k) = Ok k
key_meant e (when.Month m) Several = Err (refusal.Several e m)
key_meant e w _ = Err (refusal.Absent e w)

-- the trace of a job
abbrev pub job_trace : Job → Trace
job_trace j = trace_of j.plan.meaning.flowchart j.inputs

-- the steps of the job of a run, or that it isn't done: it has no job
abbrev pub run_said : Contents → Key → Result (List TraceStep) TraceRefusal
run_said book k = ok_or (option_and_then job_trace (job_of_key book k)) (refusal.NotDone k)

-- what a book answers to the trace of a run: the steps of this key's run, or why no run is meant
abbrev pub key_said : Contents → Result Key TraceRefusal → Result (List TraceStep) TraceRefusal
key_said book (Ok k) = run_said book k
key_said book (Err why) = Err why

-- what a book answers: the steps of the run that is meant, or why there are none
abbrev pub trace_said : Contents → List ℕ → When → Result (List TraceStep) TraceRefusal
trace_said book e w = key_said book (key_meant e w (run_meant book e w))

-- why a call tells no trace: as the book answers; memory may run out only where this has steps
abbrev pub IsTraceRefused : Contents → List ℕ → When → TraceRefusal → Type 0
IsTraceRefused book e w (refusal.Memory error) = IsOk (trace_said book e w)
IsTraceRefused book e w why = trace_said book e w ≡ Err why
