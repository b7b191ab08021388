-- What a book answers to a trace, as the answer of the line.
use Rattle.std.proofs.Common.{◌≡◌, ℕ, List, sym, ap, ◌∙◌}
use Rattle.std.specs.Prelude.{Ok}
use Rattle.payroll_records.specs.declared.when.When.{When}
use Rattle.recalc_engine.specs.Contents.{Contents}
use Rattle.month_trace.specs.BookTraces.{IsTraceRefused, trace_said}
use Rattle.month_trace.specs.declared.refusal.TraceRefusal.{TraceRefusal}
use Rattle.month_trace.specs.declared.refusal.TraceRefusal.TheVariants as traces
use Rattle.month_trace.specs.declared.step.TraceStep.{TraceStep}
use Rattle.plan_answers.specs.Answers.{Answer}
use Rattle.script_steps.specs.LineTexts.{trace_text}
use Rattle.script_steps.specs.Standings.{answered}
use Rattle.script_steps.specs.private.StepViews.{IsTraceRefusal}
use Rattle.script_steps.specs.TraceSteps.{told_trace, trace_answer}

module _ (book : Contents) (e : List ℕ) (w : When) where
  pub told : (steps : List TraceStep) (answer : Answer) → trace_said book e w ≡ Ok steps
      → answer ≡ answered (trace_text steps) 0 → answer ≡ trace_answer book e w
  told steps answer h is = is ∙ ap told_trace (sym h)

  pub refused : (why : TraceRefusal) (answer : Answer) → IsTraceRefused book e w why → IsTraceRefusal why answer
      → answer ≡ trace_answer book e w
  refused (traces.Memory x) answer h is = absurd is
  refused (traces.Absent f v) answer h is = is ∙ ap told_trace (sym h)
  refused (traces.Several f m) answer h is = is ∙ ap told_trace (sym h)
  refused (traces.NotDone k) answer h is = is ∙ ap told_trace (sym h)
