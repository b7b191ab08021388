-- What the line `trace` answers.
use Rattle.std.specs.Prelude.{ℕ, List, Result, Ok, Err}
use Rattle.payroll_records.specs.declared.when.When.{When}
use Rattle.recalc_engine.specs.Contents.{Contents}
use Rattle.month_trace.specs.BookTraces.{trace_said}
use Rattle.month_trace.specs.declared.refusal.TraceRefusal.{TraceRefusal}
use Rattle.month_trace.specs.declared.step.TraceStep.{TraceStep}
use Rattle.plan_answers.specs.Answers.{Answer, refusal}
use Rattle.script_steps.specs.LineTexts.{trace_detail, trace_text}
use Rattle.script_steps.specs.Standings.{answered}

-- the steps of a run, or why there are none
abbrev pub told_trace : Result (List TraceStep) TraceRefusal → Answer
told_trace (Ok steps) = answered (trace_text steps) 0
told_trace (Err why) = refusal (trace_detail why)

-- what is answered to the trace of an employee's run in a month or on a day
abbrev pub trace_answer : Contents → List ℕ → When → Answer
trace_answer book e w = told_trace (trace_said book e w)
