-- What the call leaves that runs a sample, and the headline from what each status says.
use Rattle.std.proofs.Common.{◌≡◌, ◌≢◌, ℕ, ◌+◌, ◌-◌, ◌≤◌, ◌<◌, Bool, true, false, List, [], ◌++◌, length, take, refl, sym, ap, ◌∙◌, subst, arith}
use Rattle.std.specs.Prelude.{Option, Some, Result, Err}
use Rattle.outside.specs.Causes.{Rose}
use Rattle.outside.specs.Told.{Appends, AppendsShort}
use Rattle.outside.proofs.Laws.{Appends-nothing}
use Rattle.plan_answers.specs.Answers.{Answer}
use Rattle.script_run.specs.LineCounts.{counts_one}
use Rattle.script_run.specs.RunClauses.{IsFinished, IsSpentWithin}
use Rattle.script_run.specs.Samples.{sample_lines, script_of}
use Rattle.script_run.specs.SampleFiles.{sample_files}
use Rattle.script_run.specs.Transcripts.{Session, IsTranscript}
use Rattle.script_run.specs.declared.turns.Ended.{Ended}
use Rattle.script_run.proofs.Laws.{some}
use Rattle.pap_cli.specs.declared.status.Status.{Status}
use Rattle.pap_cli.specs.declared.status.Status.TheVariants.{Done, Refused, BadWords, FileFault, ReadFault, WriteFault, NoMemory, ScriptLong}
use Rattle.script_run.specs.declared.stop.Stop.{Stop}
use Rattle.script_run.specs.declared.stop.Stop.TheVariants as stops
use Rattle.pap_cli.specs.Statuses.{done_status, status_of}
use Rattle.pap_cli.specs.Outside.{Outside, Output, output, output_of}
use Rattle.pap_cli.specs.SampleAnswers.{IsSampled, summary_text}
use Rattle.pap_cli.specs.SampleClauses.{EndsOnSample, IsSpentOnSample, LeavesOnSample, HeadlineOnSample}
use Rattle.pap_cli.specs.FileClauses.{IsWrittenWhole}
use Rattle.pap_cli.proofs.StatusLemmas.{appended_told, rose_and_still}

-- ---- the answer

-- the answer of a session
abbrev answer_of : ℕ → Session → Answer
answer_of employees session = record { text = summary_text employees session.standing; refused = session.refused; steps = session.steps }

sampled : (employees : ℕ) (session : Session) → IsTranscript sample_files (script_of (sample_lines employees)) session → IsSampled employees (answer_of employees session)
sampled employees session is = record { session = session; is = is; text = refl; refused = refl; cost = refl }

-- what was counted where memory ran out
pub spent_within : (employees began steps : ℕ) → IsSpentWithin sample_files (script_of (sample_lines employees)) began steps → IsSpentOnSample employees began steps
spent_within employees began steps h = record { answer = answer_of employees h.session; is = sampled employees h.session h.is; within = h.within }

-- ---- by the status

-- an answer that was written whole
ends_whole : (employees : ℕ) (before after : Output) (out : List ℕ) (refused : Bool) →
    IsWrittenWhole (IsSampled employees) out (after.steps - before.steps) (done_status refused) →
    EndsOnSample employees before after out (done_status refused)
ends_whole employees before after out true h = h
ends_whole employees before after out false h = h

-- where the sink didn't fail and memory was there, it was
whole_end : (employees : ℕ) (before after : Output) (out : List ℕ) (status : Status) →
    EndsOnSample employees before after out status → status ≢ WriteFault → status ≢ NoMemory →
    IsWrittenWhole (IsSampled employees) out (after.steps - before.steps) status
whole_end employees before after out Done h w m = h
whole_end employees before after out Refused h w m = h
whole_end employees before after out BadWords h w m = absurd h
whole_end employees before after out FileFault h w m = absurd h
whole_end employees before after out ReadFault h w m = absurd h
whole_end employees before after out WriteFault h w m = absurd (w refl)
whole_end employees before after out NoMemory h w m = absurd (m refl)
whole_end employees before after out ScriptLong h w m = absurd h

-- no file is read, and no script
pub reads_no_file : {employees : ℕ} {before after : Output} {status : Status} →
    LeavesOnSample employees before after status → status ≢ FileFault
reads_no_file {employees = employees} {before = before} {after = after} h e =
    subst (λ s. EndsOnSample employees before after h.out s) e h.ends

pub samples_no_script : {employees : ℕ} {before after : Output} {status : Status} →
    LeavesOnSample employees before after status → status ≢ ReadFault
samples_no_script {employees = employees} {before = before} {after = after} h e =
    subst (λ s. EndsOnSample employees before after h.out s) e h.ends

-- ---- a sample that was run to its end

module _ (employees began steps : ℕ) (first written : Option (List ℕ)) (ended : Ended) (text : List ℕ) (is : IsFinished sample_files (script_of (sample_lines employees)) began steps ended) (text_is : text ≡ summary_text employees ended.script) where
  whole_text : text ≡ summary_text employees (is.session).standing
  whole_text = text_is ∙ ap (λ v. summary_text employees v) is.left

  -- its summary was written whole
  pub leaves_whole : Appends first written text → LeavesOnSample employees (output first began) (output written steps) (done_status (counts_one ended.counts))
  leaves_whole appended =
      let cost : steps ≡ began + (is.session).steps = is.cost in
      record {
        out = text;
        appended = appended;
        counted = omega arith;
        ends = ends_whole employees (output first began) (output written steps) text (counts_one ended.counts)
            (record { answer = answer_of employees is.session; is = sampled employees is.session is.is; text = whole_text; cost = omega arith; ended = ap (λ r. done_status r) is.mark });
      }

  -- the sink failed
  pub leaves_cut : AppendsShort first written text → LeavesOnSample employees (output first began) (output written steps) WriteFault
  leaves_cut part =
      let cost : steps ≡ began + (is.session).steps = is.cost in
      record {
        out = take part.count text;
        appended = part.appended;
        counted = omega arith;
        ends = record { answer = answer_of employees is.session; is = sampled employees is.session is.is; count = part.count; within = subst (λ v. part.count < length v) whole_text part.within; text = ap (λ v. take part.count v) whole_text; cost = omega arith };
      }

-- memory ran out before anything was written
pub leaves_memory : (employees began steps : ℕ) (first : Option (List ℕ)) → began ≤ steps → IsSpentOnSample employees began steps →
    LeavesOnSample employees (output first began) (output first steps) NoMemory
leaves_memory employees began steps first later spent = record {
  out = [];
  appended = Appends-nothing first;
  counted = later;
  ends = (refl, spent);
}

-- at a stop
pub leaves_stop : (employees began steps : ℕ) (first : Option (List ℕ)) → IsSpentWithin sample_files (script_of (sample_lines employees)) began steps → (r : Result Bool Stop) → r ≡ Err stops.Memory →
    LeavesOnSample employees (output first began) (output first steps) (status_of r)
leaves_stop employees began steps first h r is =
    subst (λ x. LeavesOnSample employees (output first began) (output first steps) (status_of x)) (sym is)
    (leaves_memory employees began steps first h.later (spent_within employees began steps h))

-- memory ran out after the script was run
pub leaves_unsaid : (employees began steps : ℕ) (first : Option (List ℕ)) (ended : Ended) → IsFinished sample_files (script_of (sample_lines employees)) began steps ended → (r : Result Bool Stop) → r ≡ Err stops.Memory →
    LeavesOnSample employees (output first began) (output first steps) (status_of r)
leaves_unsaid employees began steps first ended is r r_is =
    let cost : steps ≡ began + (is.session).steps = is.cost in
    leaves_stop employees began steps first (record { session = is.session; is = is.is; later = omega arith; within = omega arith }) r r_is

-- memory ran out before anything was touched
pub sample_none : (employees : ℕ) (o : Outside) → LeavesOnSample employees (output_of o) (output_of o) NoMemory
sample_none employees o =
    let has = some sample_files (script_of (sample_lines employees)) in
    leaves_memory employees o.steps o.steps o.written (omega arith) (record { answer = answer_of employees has.session; is = sampled employees has.session has.is; within = omega arith })

-- ---- the headline

pub headline_sample : (employees : ℕ) (before after : Outside) (status : Status) → LeavesOnSample employees (output_of before) (output_of after) status →
    (status ≡ WriteFault → Rose before.sink_faults after.sink_faults) → HeadlineOnSample employees before after status
headline_sample employees before after status h write written said memory still_sink =
    let whole = whole_end employees (output_of before) (output_of after) h.out status h.ends
    (λ e. rose_and_still before.sink_faults after.sink_faults (write e) still_sink) memory in
    record {
      answer = whole.answer;
      is = whole.is;
      text = appended_told before.written after.written written h.out said h.appended ∙ ap (λ v. Some (written ++ v)) whole.text;
      cost = omega (arith, whole.cost, h.counted);
      ended = whole.ended;
    }
