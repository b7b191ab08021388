-- Each line of a script leaves a book that can be saved.
use Rattle.std.proofs.Common.{◌≡◌, ℕ, List, [], ◌∷◌, sym, subst, arith}
use Rattle.std.specs.Prelude.{All, Result, Ok, Err}
use Rattle.std.specs.List.{AllByRecursion}
use Rattle.std.proofs.lemmas.List.Elements.{All-nil, All-cons}
use Rattle.outside.specs.Told.{FileMap}
use Rattle.payroll_records.specs.declared.day.Day.{Day}
use Rattle.payroll_records.specs.declared.month.Month.{Month}
use Rattle.payroll_records.specs.declared.record.Record.{Record}
use Rattle.payroll_records.specs.declared.table.TableFault.{TableFault}
use Rattle.payroll_records.specs.declared.values.NamedValue.{NamedValue}
use Rattle.payroll_records.specs.Tables.{TableSays}
use Rattle.plan_calendar.specs.Picking.{Entry, plan_of}
use Rattle.saved_items.specs.SavedBooks.{IsRun, IsValue}
use Rattle.pay_run.specs.Runs.{IsKeptValue}
use Rattle.book_year.specs.Accepted.{Accepted}
use Rattle.pap_plan.specs.declared.refusal.PlanRefusal.{PlanRefusal}
use Rattle.pap_plan.specs.Acceptance.{AcceptanceSays, Meaning}
use Rattle.book_edits.specs.declared.refusal.EditRefusal.{EditRefusal}
use Rattle.correction_ledger.specs.declared.ledger.FileRefusal.{FileRefusal}
use Rattle.correction_ledger.specs.Filings.{Filings}
use Rattle.recalc_engine.specs.BookLaws.{HasKeptValues, HaveKeptValues, IsAcceptedPlan, runs_listed}
use Rattle.recalc_engine.specs.Contents.{Contents}
use Rattle.recalc_engine.specs.EditAnswers as edits
use Rattle.recalc_engine.specs.EditAnswers.{Edit, EditAnswers}
use Rattle.recalc_engine.proofs.Laws.{jobs_safe}
use Rattle.script_lang.specs.Commands as asked
use Rattle.script_lang.specs.Commands.{Asked}
use Rattle.script_lang.specs.Lines.{LineSays}
use Rattle.script_lang.specs.declared.fault.LineFault.{LineFault}
use Rattle.plan_answers.specs.Answers.{Answer}
use Rattle.script_steps.specs.LineTexts.{ok_line}
use Rattle.script_steps.specs.Standings.{Doing, Standing, first_standing}
use Rattle.script_steps.specs.LineSteps.{Does, IsEditAnswered, IsEditStep, IsLoaded, IsPlanStep, IsPut, IsReadStep, IsTableStep}
use Rattle.script_steps.specs.LineSteps.{IsTrialStep, IsUsed, PlanUse, bound_text}
use Rattle.script_steps.specs.FilingSteps.{IsFileAnswered, IsFileStep}
use Rattle.script_steps.specs.OpenSteps.{IsOpenStep, IsOpened, OpenRefusal, OpenSays}
use Rattle.script_steps.specs.GoingOn.{AreSteps, ScriptJobsAreSafe, ScriptsMakeBooks}
use Rattle.script_steps.proofs.RunLemmas.{table_runs, words_run}
use Rattle.script_steps.proofs.SoundLemmas.{IsSound, IsSoundEdit, edit_sound, opened_sound, savable}

-- the doing leaves a sound book
abbrev Keeping : Doing → Type 0
Keeping Step = (to : Standing) (answer : Answer) → Step to answer → IsSound to.book

module _ (from : Standing) (sound : IsSound from.book) where
  -- where nothing changes
  same : (to : Standing) → to ≡ from → IsSound to.book
  same to e = subst (λ (s : Standing). IsSound s.book) (sym e) sound

  edit_keeps : (text : List ℕ) (e : Edit) → IsSoundEdit e → Keeping (IsEditStep text from e)
  edit_keeps text e s to answer h = by h.verdict h.says h.is
    where
      by : (v : Result Contents EditRefusal) → EditAnswers from.book e v → IsEditAnswered text from v to answer
          → IsSound to.book
      by (Ok book) says is =
          subst (λ (s : Standing). IsSound s.book) (sym is.0)
          (subst IsSound (sym says.1) (edit_sound from.book e sound s says.0))
      by (Err why) says is = same to is.0

  table_keeps : (bytes : List ℕ) → Keeping (IsTableStep from bytes)
  table_keeps bytes to answer h = by h.said h.says h.is
    where
      by : (v : Result (List Record) TableFault) → TableSays bytes v → IsLoaded from v to answer → IsSound to.book
      by (Ok records) says is = edit_keeps ok_line (edits.load records) (table_runs bytes records says) to answer is
      by (Err why) says is = same to is.0

  open_keeps : (bytes : List ℕ) → Keeping (IsOpenStep from bytes)
  open_keeps bytes to answer h = by h.verdict h.says h.is
    where
      by : (v : Result Contents OpenRefusal) → OpenSays from bytes v → IsOpened from v to answer → IsSound to.book
      by (Ok book) says is =
          subst (λ (s : Standing). IsSound s.book) (sym is.0) (opened_sound bytes book says.1)
      by (Err why) says is = same to is.0

  read_keeps : (Step : List ℕ → Doing) → ((bytes : List ℕ) → Keeping (Step bytes)) → (files : FileMap) (file : List ℕ)
      → Keeping (IsReadStep Step files file)
  read_keeps Step keeps files file to answer h = keeps h.bytes to answer h.is

  put_keeps : (e : Entry Accepted) → IsAcceptedPlan (plan_of e) → Keeping (IsPut from e)
  put_keeps e h = edit_keeps (bound_text e) (edits.put e) h

  tried_keeps : (e : Entry Accepted) → IsAcceptedPlan (plan_of e) → Keeping (IsTrialStep from e)
  tried_keeps e h to answer k = same to k.is.0

  plan_keeps : (Use : PlanUse) → ((e : Entry Accepted) → IsAcceptedPlan (plan_of e) → Keeping (Use from e)) → (files : FileMap)
      (day : Day) (plan limits : List ℕ) → Keeping (IsPlanStep Use files from day plan limits)
  plan_keeps Use keeps files day plan limits to answer h = by h.is.verdict h.is.says h.is.is
    where
      by : (v : Result Meaning PlanRefusal) → AcceptanceSays h.plan_bytes h.limits_bytes v
          → IsUsed Use from day h.plan_bytes h.limits_bytes v to answer → IsSound to.book
      by (Ok m) says is =
          keeps (day, record { plan = h.plan_bytes; limits = h.limits_bytes; meaning = m }) says to answer is
      by (Err why) says is = same to is.0

  file_keeps : (month : Month) → Keeping (IsFileStep from month)
  file_keeps month to answer h = by h.verdict h.is
    where
      by : (v : Result (Filings × ℕ) FileRefusal) → IsFileAnswered from v to answer → IsSound to.book
      by (Ok made) is = subst (λ (s : Standing). IsSound s.book) (sym is.0) sound
      by (Err why) is = same to is.0

  -- ---- all lines

  does_keeps : (files : FileMap) (line : List ℕ) (said : Result Asked LineFault) → LineSays line said
      → Keeping (Does files from said)
  does_keeps files line (Err why) says to answer h = same to h.0
  does_keeps files line (Ok asked.nothing) says to answer h = same to h.0
  does_keeps files line (Ok (asked.plan day plan limits)) says to answer h =
      plan_keeps IsPut put_keeps files day plan limits to answer h
  does_keeps files line (Ok (asked.drop day)) says to answer h = edit_keeps ok_line (edits.drop day) tt to answer h
  does_keeps files line (Ok (asked.add r)) says to answer h =
      let ask = says.ask in
      edit_keeps ok_line (edits.add r) (words_run ask.value_words r ask.employee_is ask.values_are) to answer h
  does_keeps files line (Ok (asked.change r)) says to answer h =
      let ask = says.ask in
      edit_keeps ok_line (edits.change r) (words_run ask.value_words r ask.employee_is ask.values_are) to answer h
  does_keeps files line (Ok (asked.withdraw who when)) says to answer h =
      edit_keeps ok_line (edits.withdraw who when) tt to answer h
  does_keeps files line (Ok (asked.load file)) says to answer h =
      read_keeps (IsTableStep from) table_keeps files file to answer h
  does_keeps files line (Ok asked.report) says to answer h = same to h.0
  does_keeps files line (Ok asked.work) says to answer h = same to h.0
  does_keeps files line (Ok (asked.trace who when)) says to answer h = same to h.0
  does_keeps files line (Ok (asked.filing month)) says to answer h = file_keeps month to answer h
  does_keeps files line (Ok asked.owed) says to answer h = same to h.0
  does_keeps files line (Ok (asked.opening file)) says to answer h =
      read_keeps (IsOpenStep from) open_keeps files file to answer h
  does_keeps files line (Ok (asked.trial day plan limits)) says to answer h =
      plan_keeps IsTrialStep tried_keeps files day plan limits to answer h

-- ---- several lines

steps_keep : (files : FileMap) (lines : List (List ℕ)) (answers : List Answer) (from to : Standing) → IsSound from.book
    → AreSteps files from lines to answers → IsSound to.book
steps_keep files [] [] from to sound h = same from sound to h
steps_keep files [] (answer ∷ answers) from to sound h = absurd h
steps_keep files (line ∷ lines) [] from to sound h = absurd h
steps_keep files (line ∷ lines) (answer ∷ answers) from to sound (next, is, rest) =
    steps_keep files lines answers next to (does_keeps from sound files line is.said is.says next answer is.does) rest

first_sound : IsSound first_standing.book
first_sound = record {
  years = record { order = record { rising = tt; days = tt; some = tt }; runs = tt };
  few = omega arith;
  entries = record { rising = tt; few = omega arith };
  plans = tt;
  work = record { runs_fit = omega arith; steps_fit = omega arith };
}

pub make_books : ScriptsMakeBooks
make_books files lines answers to h = savable to.book (steps_keep files lines answers first_standing to first_sound h)

-- ---- the jobs of such a book

values_kept : (values : List NamedValue) → AllByRecursion IsValue values → All IsKeptValue values
values_kept [] h = All-nil IsKeptValue
values_kept (v ∷ values) h = All-cons IsKeptValue v values h.0.kept (values_kept values h.1)

runs_kept : (runs : List Record) → AllByRecursion IsRun runs → AllByRecursion HasKeptValues runs
runs_kept [] h = tt
runs_kept (r ∷ runs) h = (values_kept r.values h.0.each, runs_kept runs h.1)

pub make_safe : ScriptJobsAreSafe
make_safe files lines answers to h k j is =
    let s = make_books files lines answers to h in
    let kept : HaveKeptValues to.book = runs_kept (runs_listed to.book) s.saved.records.each in
    jobs_safe to.book k j s.book_is kept is
