-- What a book answers of the run that is meant.
use Rattle.std.proofs.Common.{◌≡◌, ℕ, List, Option, Some, None, Ok, refl, sym, ap, subst, ◌∙◌}
use Rattle.std.specs.Prelude.{IsOk, IsSome, option_and_then}
use Rattle.std.specs.Option.{ok_or}
use Rattle.payroll_records.specs.declared.record.Key.{Key}
use Rattle.payroll_records.specs.declared.values.NamedValue.{NamedValue}
use Rattle.payroll_records.specs.declared.when.When.{When}
use Rattle.payroll_records.specs.declared.when.When.TheVariants as when
use Rattle.pay_run.specs.Runs.{named_values, run_outputs}
use Rattle.pay_run.proofs.Laws.{outputs_are}
use Rattle.book_year.specs.declared.outcome.State.TheVariants as state
use Rattle.book_year.specs.Rows.{Job, Row}
use Rattle.book_edits.specs.declared.in_month.InMonth.TheVariants.{One}
use Rattle.recalc_engine.specs.BookLaws.{IsDoneBy}
use Rattle.recalc_engine.specs.Contents.{Contents, row_at}
use Rattle.recalc_engine.specs.Jobs.{job_of_key}
use Rattle.recalc_engine.proofs.Laws.{jobs_done, jobs_safe}
use Rattle.month_trace.specs.declared.refusal.TraceRefusal.TheVariants as refusal
use Rattle.month_trace.specs.declared.step.TraceStep.{TraceStep}
use Rattle.month_trace.specs.BookTraces.{job_trace, key_meant, key_said, run_meant, run_said, trace_said}
use Rattle.month_trace.specs.TraceLaws.{IsDoneWith, TracesEndInReports, outputs_behind}
use Rattle.month_trace.proofs.OutputLemmas.{tells_outputs}
use Rattle.month_trace.proofs.ThereLemmas.{one_trace}

key_meant-one : (e : List ℕ) (w : When) (k : Key) → key_meant e w (One k) ≡ Ok k
key_meant-one e (when.Day d) k = refl
key_meant-one e (when.Month m) k = refl

module _ (book : Contents) (e : List ℕ) (w : When) (k : Key) (is : Ok k ≡ key_meant e w (run_meant book e w)) where
  pub of_key : trace_said book e w ≡ run_said book k
  of_key = ap (key_said book) (sym is)

  pub of_job : (job : Job) → Some job ≡ job_of_key book k → trace_said book e w ≡ ok_or (job_trace job) (refusal.NotDone k)
  of_job job some = of_key ∙ ap (λ o. ok_or (option_and_then job_trace o) (refusal.NotDone k)) (sym some)

  pub has_steps : (job : Job) → Some job ≡ job_of_key book k → IsSome (job_trace job) → IsOk (trace_said book e w)
  has_steps job some there = subst IsOk (sym (of_job job some)) (by (job_trace job) there)
    where
      by : (o : Option (List TraceStep)) → IsSome o → IsOk (ok_or o (refusal.NotDone k))
      by None h = h
      by (Some steps) h = refl

-- ---- the trace of a run of a book ends in what the book reports

done_with : (j : Job) (outputs : List NamedValue) → run_outputs j.plan j.inputs ≡ outputs → (o : Option Row) →
    IsDoneBy j o → IsDoneWith outputs o
done_with j outputs are None h = absurd h
done_with j outputs are (Some row) h = h ∙ ap (λ vs. state.Done vs) are

pub traces_end : TracesEndInReports
traces_end book e w k j is kept meant job =
    let safe = jobs_safe book k j is kept job in
    let f = j.plan.meaning.flowchart in
    let trace = one_trace f j.inputs safe.runs.safe in
    let typed = safe.plan.bound.suited.named.file.ordered.typed.typed in
    let outputs = tells_outputs f j.inputs typed safe.runs.safe trace.steps trace.are in
    let reported = named_values f.outputs (outputs_behind f trace.steps) in
    record {
      steps = trace.steps;
      told =
          of_job book e w k (sym (ap (key_meant e w) meant ∙ key_meant-one e w k)) j (sym job)
          ∙ ap (λ o. ok_or o (refusal.NotDone k)) trace.are;
      done =
          done_with j reported (sym (outputs_are j.plan j.inputs (outputs_behind f trace.steps) outputs))
          (row_at book k) (jobs_done book k j job);
    }
