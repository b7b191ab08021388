-- A line that is refused changes nothing and counts no step; a plan that is put holds.
use Rattle.std.proofs.Common.{◌≡◌, false, true, ℕ, List, [], refl, sym, ap, ◌∙◌, subst}
use Rattle.std.specs.Prelude.{Result, Ok, Err}
use Rattle.std.proofs.lemmas.Bool.{false≢true}
use Rattle.std.proofs.lemmas.List.{append-nil}
use Rattle.outside.specs.Told.{FileMap}
use Rattle.payroll_records.specs.declared.day.Day.{Day}
use Rattle.payroll_records.specs.declared.month.Month.{Month}
use Rattle.payroll_records.specs.declared.record.Record.{Record}
use Rattle.payroll_records.specs.declared.table.TableFault.{TableFault}
use Rattle.plan_calendar.specs.Picking.{Entry}
use Rattle.pap_types.specs.Meaning.{bound_of}
use Rattle.pap_plan.specs.declared.refusal.PlanRefusal.{PlanRefusal}
use Rattle.pap_plan.specs.Acceptance.{AcceptanceSays, Meaning}
use Rattle.book_year.specs.Accepted.{Accepted}
use Rattle.book_edits.specs.declared.refusal.EditRefusal.{EditRefusal}
use Rattle.recalc_engine.specs.Contents.{Contents, whole_cost}
use Rattle.recalc_engine.specs.EditAnswers as edits
use Rattle.recalc_engine.specs.EditAnswers.{Edit}
use Rattle.month_trace.specs.BookTraces.{trace_said}
use Rattle.month_trace.specs.declared.refusal.TraceRefusal.{TraceRefusal}
use Rattle.month_trace.specs.declared.step.TraceStep.{TraceStep}
use Rattle.correction_ledger.specs.declared.due.Due.{Due}
use Rattle.correction_ledger.specs.declared.ledger.FileRefusal.{FileRefusal}
use Rattle.correction_ledger.specs.declared.ledger.OwedRefusal.{OwedRefusal}
use Rattle.correction_ledger.specs.Filings.{Filings}
use Rattle.script_lang.specs.Commands as asked
use Rattle.script_lang.specs.Commands.{Asked}
use Rattle.script_lang.specs.declared.fault.LineFault.{LineFault}
use Rattle.script_lang.proofs.Laws.{line_once}
use Rattle.plan_answers.specs.Answers.{Answer, refusal}
use Rattle.plan_answers.specs.Lines.{bound_line}
use Rattle.plan_answers.proofs.Laws.{refusal_steps}
use Rattle.script_steps.specs.LineTexts.{ok_line, line_detail, table_detail, edit_detail, file_detail, owed_detail}
use Rattle.script_steps.specs.Standings.{Standing, Doing, Stays, answered, silence}
use Rattle.script_steps.specs.TraceSteps.{told_trace}
use Rattle.script_steps.specs.FilingSteps.{IsFileAnswered, IsFileStep, IsOwedStep, filed_answer, owed_answer}
use Rattle.script_steps.specs.OpenSteps.{IsOpenStep, IsOpened, OpenRefusal, open_detail}
use Rattle.script_steps.specs.LineSteps.{Does, IsEditAnswered, IsEditStep, IsLoaded, IsPlanStep, IsPut, IsReadStep}
use Rattle.script_steps.specs.LineSteps.{IsTableStep, IsTextsStep, IsTrialStep, IsUsed, PlanUse, bound_text, report_answer}
use Rattle.script_steps.specs.LineSteps.{trial_answer, work_answer}
use Rattle.script_steps.specs.Promises.{NeverFailsWithin}
use Rattle.script_steps.specs.StepLaws.{PutPlansHold, RefusedLinesChangeNothing}
use Rattle.script_steps.proofs.KindLemmas.{one_some}
use Rattle.script_steps.proofs.PromiseLemmas.{never_fails, refused_otherwise}

-- an answer that isn't marked as a refusal
plain : (said answer : Answer) → answer ≡ said → said.refused ≡ false → answer.refused ≡ true → ⊥
plain said answer is unmarked refused =
    false≢true (sym unmarked ∙ sym (ap (λ (a : Answer). a.refused) is) ∙ refused)

-- where this is refused, nothing has changed and no step is counted
abbrev Still : Standing → Standing → Answer → Type 0
Still from to answer = answer.refused ≡ true → (to ≡ from) × (answer.steps ≡ 0)

-- so it is of all that is done so
abbrev Stilled : Standing → Doing → Type 0
Stilled from Step = (to : Standing) (answer : Answer) → Step to answer → Still from to answer

module _ (from : Standing) where
  -- ---- each kind of line

  -- nothing changes, and no step is counted
  stays_still : (said : Answer) → said.steps ≡ 0 → Stilled from (λ to answer. Stays from to said answer)
  stays_still said none to answer h refused = (h.0, ap (λ (a : Answer). a.steps) h.1 ∙ none)

  edit_still : (text : List ℕ) (e : Edit) → Stilled from (IsEditStep text from e)
  edit_still text e to answer h = by h.verdict h.is
    where
      by : (v : Result Contents EditRefusal) → IsEditAnswered text from v to answer → Still from to answer
      by (Ok book) is = λ refused. absurd (plain (answered text book.last.steps) answer is.1 refl refused)
      by (Err why) is = stays_still (refusal (edit_detail why)) refl to answer is

  table_still : (bytes : List ℕ) → Stilled from (IsTableStep from bytes)
  table_still bytes to answer h = by h.said h.is
    where
      by : (v : Result (List Record) TableFault) → IsLoaded from v to answer → Still from to answer
      by (Ok records) is = edit_still ok_line (edits.load records) to answer is
      by (Err why) is = stays_still (refusal (table_detail why)) refl to answer is

  open_still : (bytes : List ℕ) → Stilled from (IsOpenStep from bytes)
  open_still bytes to answer h = by h.verdict h.is
    where
      by : (v : Result Contents OpenRefusal) → IsOpened from v to answer → Still from to answer
      by (Ok book) is = λ refused. absurd (plain (answered ok_line (whole_cost book)) answer is.1 refl refused)
      by (Err why) is = stays_still (refusal (open_detail why)) refl to answer is

  read_still : (Step : List ℕ → Doing) → ((bytes : List ℕ) → Stilled from (Step bytes)) → (files : FileMap)
      (file : List ℕ) → Stilled from (IsReadStep Step files file)
  read_still Step still files file to answer h = still h.bytes to answer h.is

  put_still : (e : Entry Accepted) → Stilled from (IsPut from e)
  put_still e = edit_still (bound_text e) (edits.put e)

  tried_still : (e : Entry Accepted) → Stilled from (IsTrialStep from e)
  tried_still e to answer h = by h.verdict h.is
    where
      by : (v : Result Contents EditRefusal) → Stays from to (trial_answer from.book e v) answer → Still from to answer
      by (Ok book) is = λ refused. absurd (plain (trial_answer from.book e (Ok book)) answer is.1 refl refused)
      by (Err why) is = stays_still (refusal (edit_detail why)) refl to answer is

  plan_still : (Use : PlanUse) → ((e : Entry Accepted) → Stilled from (Use from e)) → (files : FileMap) (day : Day)
      (plan limits : List ℕ) → Stilled from (IsPlanStep Use files from day plan limits)
  plan_still Use still files day plan limits to answer h = by h.is.verdict h.is.is
    where
      by : (v : Result Meaning PlanRefusal) → IsUsed Use from day h.plan_bytes h.limits_bytes v to answer
          → Still from to answer
      by (Ok m) is =
          still (day, record { plan = h.plan_bytes; limits = h.limits_bytes; meaning = m }) to answer is
      by (Err why) is = λ refused. (is.0, refusal_steps h.plan_bytes why answer is.1)

  trace_still : (said : Result (List TraceStep) TraceRefusal)
      → Stilled from (λ to answer. Stays from to (told_trace said) answer)
  trace_still (Ok steps) = stays_still (told_trace (Ok steps)) refl
  trace_still (Err why) = stays_still (told_trace (Err why)) refl

  file_still : (month : Month) → Stilled from (IsFileStep from month)
  file_still month to answer h = by h.verdict h.is
    where
      by : (v : Result (Filings × ℕ) FileRefusal) → IsFileAnswered from v to answer → Still from to answer
      by (Ok made) is = λ refused. absurd (plain (filed_answer from.filings made) answer is.1 refl refused)
      by (Err why) is = stays_still (refusal (file_detail why)) refl to answer is

  owed_still : Stilled from (IsOwedStep from)
  owed_still to answer h = by h.1.verdict h.1.told
    where
      by : (v : Result (List Due) OwedRefusal) → answer ≡ owed_answer v → Still from to answer
      by (Ok dues) is = stays_still (owed_answer (Ok dues)) refl to answer (h.0, is)
      by (Err why) is = stays_still (refusal (owed_detail why)) refl to answer (h.0, is)

  -- ---- all lines

  does_still : (files : FileMap) (said : Result Asked LineFault) → Stilled from (Does files from said)
  does_still files (Err why) = stays_still (refusal (line_detail why)) refl
  does_still files (Ok asked.nothing) = stays_still silence refl
  does_still files (Ok (asked.plan day plan limits)) = plan_still IsPut put_still files day plan limits
  does_still files (Ok (asked.drop day)) = edit_still ok_line (edits.drop day)
  does_still files (Ok (asked.add r)) = edit_still ok_line (edits.add r)
  does_still files (Ok (asked.change r)) = edit_still ok_line (edits.change r)
  does_still files (Ok (asked.withdraw who when)) = edit_still ok_line (edits.withdraw who when)
  does_still files (Ok (asked.load file)) = read_still (IsTableStep from) table_still files file
  does_still files (Ok asked.report) = stays_still (report_answer from) refl
  does_still files (Ok asked.work) = stays_still (work_answer from) refl
  does_still files (Ok (asked.trace who when)) = trace_still (trace_said from.book who when)
  does_still files (Ok (asked.filing month)) = file_still month
  does_still files (Ok asked.owed) = owed_still
  does_still files (Ok (asked.opening file)) = read_still (IsOpenStep from) open_still files file
  does_still files (Ok (asked.trial day plan limits)) = plan_still IsTrialStep tried_still files day plan limits

pub refused : RefusedLinesChangeNothing
refused files from to line answer is marked = does_still from files is.said to answer is.does marked

-- ---- a plan that is put

module _ (from to : Standing) (answer : Answer) (day : Day) (plan limits : List ℕ) (steps : ℕ)
    (read : answer.text ≡ bound_line steps) where
  -- what is answered isn't a refusal
  never : (detail : List ℕ) → answer ≡ refusal detail → ⊥
  never detail is = refused_otherwise detail [] steps answer is (read ∙ sym (append-nil (bound_line steps)))

  put_bound : (e : Entry Accepted) → IsPut from e to answer → answer.text ≡ bound_text e
  put_bound e h = by h.verdict h.is
    where
      by : (v : Result Contents EditRefusal) → IsEditAnswered (bound_text e) from v to answer
          → answer.text ≡ bound_text e
      by (Ok book) is = ap (λ (a : Answer). a.text) is.1
      by (Err why) is = absurd (never (edit_detail why) is.1)

  put_holds : IsTextsStep IsPut from day plan limits to answer → NeverFailsWithin plan limits steps
  put_holds h = by h.verdict h.says h.is
    where
      by : (v : Result Meaning PlanRefusal) → AcceptanceSays plan limits v → IsUsed IsPut from day plan limits v to answer
          → NeverFailsWithin plan limits steps
      by (Ok m) says is =
          let printed = put_bound (day, record { plan = plan; limits = limits; meaning = m }) is in
          never_fails plan limits answer.text [] [] m steps says
          (printed ∙ sym (append-nil (bound_line (bound_of m.flowchart))))
          (read ∙ sym (append-nil (bound_line steps)))
      by (Err why) says is = absurd (never is.1.detail is.1.is)

pub put_plans : PutPlansHold
put_plans files from to line answer day plan limits plan_bytes limits_bytes steps asks plan_there limits_there is read =
    let what = line_once line is.said (Ok (asked.plan day plan limits)) is.says asks in
    let does = subst (λ s. Does files from s to answer) what is.does in
    let first = one_some does.plan_bytes plan_bytes (sym does.plan_there ∙ plan_there) in
    let second = one_some does.limits_bytes limits_bytes (sym does.limits_there ∙ limits_there) in
    let put = subst (λ x. IsTextsStep IsPut from day x does.limits_bytes to answer) first does.is in
    put_holds from to answer day plan_bytes limits_bytes steps read
    (subst (λ y. IsTextsStep IsPut from day plan_bytes y to answer) second put)
