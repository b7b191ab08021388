-- What a call leaves on two files, and the headline from what each status says.
use Rattle.std.proofs.Common.{◌≡◌, ◌≢◌, ℕ, ◌+◌, ◌≤◌, Bool, true, false, List, [], ◌++◌, take, refl, sym, ap, ◌∙◌, subst, arith, inl, inr}
use Rattle.std.specs.Prelude.{Option, Some, Result, Err}
use Rattle.outside.specs.Causes.{Rose}
use Rattle.outside.specs.Told.{FileMap, Appends, AppendsShort}
use Rattle.outside.proofs.Laws.{Appends-nothing}
use Rattle.outside.specs.declared.traits.FileAnswer.{FileAnswer}
use Rattle.outside.specs.declared.traits.FileAnswer.TheVariants as files
use Rattle.pap_cli.specs.declared.status.Status.{Status}
use Rattle.pap_cli.specs.declared.status.Status.TheVariants.{Done, Refused, BadWords, FileFault, ReadFault, WriteFault, NoMemory, ScriptLong}
use Rattle.script_run.specs.Notes.{Telling}
use Rattle.script_run.specs.declared.stop.Stop.{Stop}
use Rattle.script_run.specs.declared.stop.Stop.TheVariants as stops
use Rattle.script_run.specs.Stops.{stop_of_file}
use Rattle.script_steps.specs.Shown.{OutsideShown, shown}
use Rattle.pap_cli.specs.declared.words.Command.{Command}
use Rattle.pap_cli.specs.declared.words.Command.TheVariants.{Check, Once}
use Rattle.pap_cli.specs.Statuses.{done_status, status_of}
use Rattle.plan_answers.specs.Answers.{Answer, CheckAnswers}
use Rattle.pap_cli.specs.RunAnswers.{OnceAnswers}
use Rattle.pap_cli.specs.private.AnswerViews.{answers_of}
use Rattle.pap_cli.specs.Outside.{Outside, shown_of}
use Rattle.pap_cli.specs.FileClauses.{Answering, AnswersFiles, EndsOnFiles, EndsWhole, IsCounted, LeavesOnFiles, HeadlineOnFiles}
use Rattle.plan_answers.specs.Fronts.{AreFronts, IsMissing}
use Rattle.pap_cli.specs.CallClauses.{Leaves, Headline, Carries}
use Rattle.pap_cli.specs.Words.{Form, check, once, run, sample, save}
use Rattle.pap_cli.proofs.ScriptLemmas.{script_none}
use Rattle.pap_cli.proofs.SampleLemmas.{sample_none}
use Rattle.pap_cli.proofs.SaveLemmas.{save_none}
use Rattle.pap_cli.specs.private.WordViews.{form_by}
use Rattle.pap_cli.proofs.FrontLemmas.{answers_both}
use Rattle.pap_cli.proofs.StatusLemmas.{appended_told}
use Rattle.pap_cli.proofs.StatusLemmas.{rose_and_still}

-- an answer that was written whole
ends_whole : (Answers : Answering) (plan limits : List ℕ) (before after : OutsideShown) (out : List ℕ) (refused : Bool) →
    EndsWhole (AnswersFiles Answers plan limits) before after out (done_status refused) →
    EndsOnFiles Answers plan limits before after out (done_status refused)
ends_whole Answers plan limits before after out true h = h
ends_whole Answers plan limits before after out false h = h

-- where no call failed and memory was there, it was
whole_end : (Answers : Answering) (plan limits : List ℕ) (before after : OutsideShown) (out : List ℕ) (status : Status) →
    EndsOnFiles Answers plan limits before after out status → status ≢ FileFault → status ≢ WriteFault → status ≢ NoMemory →
    EndsWhole (AnswersFiles Answers plan limits) before after out status
whole_end Answers plan limits before after out Done h f w m = h
whole_end Answers plan limits before after out Refused h f w m = h
whole_end Answers plan limits before after out BadWords h f w m = absurd h
whole_end Answers plan limits before after out FileFault h f w m = absurd (f refl)
whole_end Answers plan limits before after out ReadFault h f w m = absurd h
whole_end Answers plan limits before after out WriteFault h f w m = absurd (w refl)
whole_end Answers plan limits before after out NoMemory h f w m = absurd (m refl)
whole_end Answers plan limits before after out ScriptLong h f w m = absurd h

-- no script is read
pub reads_no_script : {Answers : Answering} {plan limits : List ℕ} {before after : OutsideShown} {status : Status} →
    LeavesOnFiles Answers plan limits before after status → status ≢ ReadFault
reads_no_script {Answers = Answers} {plan = plan} {limits = limits} {before = before} {after = after} h e =
    subst (λ s. EndsOnFiles Answers plan limits before after h.out s) e h.ends

module _ (Answers : Answering) (plan limits : List ℕ) (told told' : Option FileMap) (failed failed' : Option (List ℕ)) (first written : Option (List ℕ)) (began steps : ℕ) where
  abbrev pub Left : Status → Type 0
  Left status = LeavesOnFiles Answers plan limits (shown told failed first began) (shown told' failed' written steps) status

  -- an answer that was made
  module _ (answer : Answer) (is : (files : FileMap) → told ≡ Some files → AnswersFiles Answers plan limits files answer) (counted : steps ≡ began + answer.steps) (kept : failed' ≡ failed) where
    -- it was written whole
    pub leaves_whole : Appends first written answer.text → Left (done_status answer.refused)
    leaves_whole appended = record {
      out = answer.text;
      appended = appended;
      counted = omega arith;
      ends = ends_whole Answers plan limits (shown told failed first began) (shown told' failed' written steps)
          answer.text answer.refused (λ files e. record {
            answer = answer;
            is = is files e;
            text = refl;
            cost = omega arith;
            ended = refl;
          });
      kept = λ e. kept;
    }

    -- the sink failed
    pub leaves_cut : AppendsShort first written answer.text → Left WriteFault
    leaves_cut part = record {
      out = take part.count answer.text;
      appended = part.appended;
      counted = omega arith;
      ends = λ files t. record {
        answer = answer;
        is = is files t;
        count = part.count;
        within = part.within;
        text = refl;
        cost = omega arith;
      };
      kept = λ e. kept;
    }

-- memory ran out before anything was written
pub leaves_memory : (Answers : Answering) (plan limits : List ℕ) (told told' : Option FileMap) (failed failed' : Option (List ℕ)) (first : Option (List ℕ)) (began steps : ℕ) → failed' ≡ failed → began ≤ steps →
    ((files : FileMap) → told ≡ Some files → IsCounted (AnswersFiles Answers plan limits files) began steps) →
    LeavesOnFiles Answers plan limits (shown told failed first began) (shown told' failed' first steps) NoMemory
leaves_memory Answers plan limits told told' failed failed' first began steps kept more counted = record {
  out = [];
  appended = Appends-nothing first;
  counted = more;
  ends = (refl, counted);
  kept = λ e. kept;
}

-- a file could not be read
pub leaves_file : (Answers : Answering) (plan limits : List ℕ) (told told' : Option FileMap) (failed failed' : Option (List ℕ)) (first : Option (List ℕ)) (began : ℕ) → IsMissing told plan limits failed' →
    LeavesOnFiles Answers plan limits (shown told failed first began) (shown told' failed' first began) FileFault
leaves_file Answers plan limits told told' failed failed' first began missing = record {
  out = [];
  appended = Appends-nothing first;
  counted = omega arith;
  ends = (refl, refl, missing);
  kept = λ e. absurd (e refl);
}

-- what the files answered, at the exit of the call
pub leaves_answer : (Answers : Answering) (plan limits : List ℕ) (told told' : Option FileMap) (failed failed' : Option (List ℕ)) (first : Option (List ℕ)) (began : ℕ) (answer : FileAnswer) →
    (answer ≡ files.Failed → IsMissing told plan limits failed') → (answer ≡ files.Memory → failed' ≡ failed) → (r : Result Bool Stop) → r ≡ Err (stop_of_file answer) →
    LeavesOnFiles Answers plan limits (shown told failed first began) (shown told' failed' first began) (status_of r)
leaves_answer Answers plan limits told told' failed failed' first began answer missing kept r is =
    subst (λ x. LeavesOnFiles Answers plan limits (shown told failed first began) (shown told' failed' first began) (status_of x)) (sym is) (by answer missing kept)
  where
    by : (answer : FileAnswer) → (answer ≡ files.Failed → IsMissing told plan limits failed') → (answer ≡ files.Memory → failed' ≡ failed) → LeavesOnFiles Answers plan limits (shown told failed first began) (shown told' failed' first began) (status_of (Err (stop_of_file answer)))
    by files.Failed missing kept = leaves_file Answers plan limits told told' failed failed' first began (missing refl)
    by files.Memory missing kept = leaves_memory Answers plan limits told told' failed failed' first began began (kept refl) (omega arith) (λ files e. inl refl)

-- ---- by form

-- the same of all that the outside shows
pub leaves_form : (c : Command) (plan limits : List ℕ) (before after : Outside) (lines : Telling) (status : Status) →
    LeavesOnFiles (answers_of c) plan limits (shown before.files before.failed before.written before.steps) (shown after.files after.failed after.written after.steps) status →
    Leaves (form_by c plan limits) before after lines status
leaves_form Check plan limits before after lines status h = h
leaves_form (Once values) plan limits before after lines status h = h

headline_on : (Answers : Answering) (plan limits : List ℕ) (before after : Outside) (status : Status) → LeavesOnFiles Answers plan limits (shown_of before) (shown_of after) status →
    (status ≡ FileFault → Rose before.file_faults after.file_faults) → (status ≡ WriteFault → Rose before.sink_faults after.sink_faults) → HeadlineOnFiles Answers plan limits before after status
headline_on Answers plan limits before after status h file write files told written said memory still_files still_sink =
    let whole = whole_end Answers plan limits (shown_of before) (shown_of after) h.out status h.ends
    (λ e. rose_and_still before.file_faults after.file_faults (file e) still_files)
    (λ e. rose_and_still before.sink_faults after.sink_faults (write e) still_sink) memory files told in
    record {
      answer = whole.answer;
      answers = whole.is;
      text = appended_told before.written after.written written h.out said h.appended ∙ ap (λ v. Some (written ++ v)) whole.text;
      cost = omega (arith, whole.cost, h.counted);
      ended = whole.ended;
    }

-- the headline of each form, from what each status says
pub headline_form : (c : Command) (plan limits : List ℕ) (before after : Outside) (lines : Telling) (status : Status) →
    Leaves (form_by c plan limits) before after lines status →
    (status ≡ FileFault → Rose before.file_faults after.file_faults) → (status ≡ WriteFault → Rose before.sink_faults after.sink_faults) → Headline (form_by c plan limits) before after status
headline_form Check plan limits before after lines status h file write = headline_on (answers_of Check) plan limits before after status h file write
headline_form (Once values) plan limits before after lines status h file write = headline_on (answers_of (Once values)) plan limits before after status h file write

-- ---- both files

-- what was counted where memory ran out, said of the files
more_counted : (IsAnswer : Answer → Type 0) (began steps : ℕ) → IsCounted IsAnswer began steps → began ≤ steps
more_counted IsAnswer began steps (inl e) = omega arith
more_counted IsAnswer began steps (inr u) = omega (arith, u.cost)

counted_both : (c : Command) (plan limits front front' : List ℕ) (files : FileMap) (began steps : ℕ) → AreFronts files plan limits front front' → IsCounted (answers_of c front front') began steps → IsCounted (AnswersFiles (answers_of c) plan limits files) began steps
counted_both c plan limits front front' files began steps r (inl e) = inl e
counted_both c plan limits front front' files began steps r (inr u) = inr (record { answer = u.answer; is = answers_both c plan limits front front' files u.answer r u.is; cost = u.cost })

-- memory ran out while the answer was made
pub leaves_want : (c : Command) (plan limits front front' : List ℕ) (told told' : Option FileMap) (failed failed' first : Option (List ℕ)) (began steps : ℕ) → failed' ≡ failed →
    ((files : FileMap) → told ≡ Some files → AreFronts files plan limits front front') → IsCounted (answers_of c front front') began steps → (r : Result Bool Stop) → r ≡ Err stops.Memory →
    LeavesOnFiles (answers_of c) plan limits (shown told failed first began) (shown told' failed' first steps) (status_of r)
leaves_want c plan limits front front' told told' failed failed' first began steps kept read counted r is =
    subst (λ x. LeavesOnFiles (answers_of c) plan limits (shown told failed first began) (shown told' failed' first steps) (status_of x)) (sym is)
    (leaves_memory (answers_of c) plan limits told told' failed failed' first began steps kept (more_counted (answers_of c front front') began steps counted) (λ files e. counted_both c plan limits front front' files began steps (read files e) counted))

-- memory ran out before anything was touched
leaves_none : (form : Form) (o : Outside) (lines : Telling) → Leaves form o o lines NoMemory
leaves_none (check plan limits) o lines = leaves_form Check plan limits o o lines NoMemory (leaves_memory CheckAnswers plan limits o.files o.files o.failed o.failed o.written o.steps o.steps refl (omega arith) (λ files e. inl refl))
leaves_none (once plan limits values) o lines = leaves_form (Once values) plan limits o o lines NoMemory (leaves_memory (OnceAnswers values) plan limits o.files o.files o.failed o.failed o.written o.steps o.steps refl (omega arith) (λ files e. inl refl))
leaves_none run o lines = script_none o lines
leaves_none (sample employees) o lines = sample_none employees o
leaves_none save o lines = save_none o lines

headline_none : (form : Form) (o : Outside) → Headline form o o NoMemory
headline_none (check plan limits) o = λ files t written w memory. absurd (memory refl)
headline_none (once plan limits values) o = λ files t written w memory. absurd (memory refl)
headline_none run o = λ files t script s written w short memory. absurd (memory refl)
headline_none (sample employees) o = λ written w memory. absurd (memory refl)
headline_none save o = λ files t script s written w short memory. absurd (memory refl)

pub carries_none : (form : Form) (o : Outside) (lines : Telling) → Carries form o o lines NoMemory
carries_none form o lines = record { leaves = leaves_none form o lines; headline = headline_none form o }
