-- Want of memory, where the run that is meant has a trace.
use Rattle.std.proofs.Common.{ℕ, List, Result, Ok, Err, Vec, Global, ◌≡◌, sym, subst}
use Rattle.std.specs.Prelude.{IfErr, IsOk}
use Rattle.std.specs.Result.{IsErrAnd}
use Rattle.std.specs.declared.alloc.AllocError.{AllocError}
use Rattle.payroll_records.specs.declared.when.When.{When}
use Rattle.recalc_engine.specs.Contents.{Contents}
use Rattle.month_trace.specs.declared.refusal.TraceRefusal.{TraceRefusal}
use Rattle.month_trace.specs.declared.refusal.TraceRefusal.TheVariants.{Memory}
use Rattle.month_trace.specs.declared.step.TraceStep.{TraceStep}
use Rattle.month_trace.specs.BookTraces.{IsTraceRefused, trace_said}

module _ (book : Contents) (e : List ℕ) (w : When) where
  pub memory_only : (r : Result (Vec TraceStep Global) TraceRefusal) (x : AllocError) → IsErrAnd r (λ f. f ≡ Memory x)
      → IsOk (trace_said book e w) → IfErr r (IsTraceRefused book e w)
  memory_only (Ok v) x is h = tt
  memory_only (Err f) x is h = subst (IsTraceRefused book e w) (sym is) h
