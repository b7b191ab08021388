-- The traces of a book's runs.
use Rattle.std.specs.Prelude.{List, option_and_then, option_to_list}
use Rattle.std.specs.List.{flat_map}
use Rattle.payroll_records.specs.declared.record.Key.{Key}
use Rattle.payroll_records.specs.declared.record.Record.{Record}
use Rattle.payroll_records.specs.Tables.{key_of}
use Rattle.book_edits.specs.Books.{YearRuns}
use Rattle.recalc_engine.specs.Contents.{Contents}
use Rattle.recalc_engine.specs.Jobs.{job_of_key}
use Rattle.month_trace.specs.declared.step.TraceStep.{TraceStep}
use Rattle.month_trace.specs.BookTraces.{job_trace}

-- the trace of the run of a key; none where it has no outputs
abbrev pub key_traces : Contents → Key → List (List TraceStep)
key_traces book k = option_to_list (option_and_then job_trace (job_of_key book k))

-- the trace of a run, where it has one
abbrev pub run_traces : Contents → Record → List (List TraceStep)
run_traces book r = key_traces book (key_of r)

-- the traces of the runs of a year
abbrev pub year_traces : Contents → YearRuns → List (List TraceStep)
year_traces book y = flat_map (run_traces book) y.runs

-- the traces of all runs of a book that have outputs, in order of employee and day
abbrev pub book_traces : Contents → List (List TraceStep)
book_traces book = flat_map (year_traces book) book.years
