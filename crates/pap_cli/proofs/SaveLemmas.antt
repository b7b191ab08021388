-- What `save` leaves, and the headline from what each status says.
use Rattle.std.proofs.Common.{◌≡◌, ◌≢◌, ℕ, ◌-◌, ◌≤◌, Bool, false, List, [], ◌++◌, length, take, refl, sym, ap, ◌∙◌, subst, arith, inl, inr}
use Rattle.std.specs.Prelude.{Option, Some, None, Ok, Err, codes}
use Rattle.std.specs.Option.{ForSome}
use Rattle.outside.specs.Causes.{Rose}
use Rattle.outside.specs.Told.{FileMap, Appends, AppendsShort}
use Rattle.outside.proofs.Laws.{Appends-nothing}
use Rattle.plan_answers.specs.Answers.{Answer, refusal}
use Rattle.plan_answers.specs.Replies.{reply_of}
use Rattle.plan_answers.specs.declared.reply.Reply.{Reply}
use Rattle.script_steps.specs.Steps.{Standing}
use Rattle.script_run.specs.Limits.{most_script}
use Rattle.script_run.specs.LineCounts.{counts_one}
use Rattle.script_run.specs.Notes.{NotesShown, Telling, with_notes}
use Rattle.script_run.specs.RunClauses.{RunMeets, RunResult, EndsUnwritten}
use Rattle.script_run.specs.Transcripts.{Session}
use Rattle.script_run.specs.declared.turns.Unwritten.{Unwritten}
use Rattle.script_run.specs.declared.line_counts.LineCounts.{LineCounts}
use Rattle.script_run.specs.declared.stop.Stopped.{Stopped}
use Rattle.script_run.specs.declared.stop.Stop.TheVariants as stops
use Rattle.script_run.proofs.Laws.{one}
use Rattle.pap_cli.specs.declared.status.Status.{Status}
use Rattle.pap_cli.specs.declared.status.Status.TheVariants.{FileFault, ReadFault, WriteFault, NoMemory}
use Rattle.pap_cli.specs.Statuses.{done_status, status_of}
use Rattle.pap_cli.specs.Notes.{AreSummed}
use Rattle.pap_cli.specs.Outside.{Outside}
use Rattle.recalc_engine.specs.Contents.{Contents}
use Rattle.book_file.specs.Saving.{SaveSays}
use Rattle.book_file.specs.declared.refusal.SaveRefusal.TheVariants as unsaved
use Rattle.pap_cli.specs.SaveAnswers.{Written, IsBookWritten, IsSave, SaveAnswers, was_filed}
use Rattle.pap_cli.specs.SaveClauses.{unwritten, IsSaveEnd, SaveEnds, LeavesOnSave, IsSavedWhole, HeadlineOnSave}
use Rattle.pap_cli.specs.private.SaveViews.{written_of}
use Rattle.pap_cli.proofs.ScriptLemmas.{lost, no_more}
use Rattle.pap_cli.proofs.StatusLemmas.{appended_told, long_stop, no_write, not_long, rose_and_still, written_whole}

-- ---- a script that was answered to its end

-- the answer of its session
abbrev save_of : (reply : Reply) → ℕ → Answer
save_of reply steps = record { text = reply.text.items; refused = reply.refused; steps = steps }

same_save : (ended : Unwritten) (session : Session) (reply : Reply) → counts_one ended.counts ≡ session.refused → (ended.refusals).items ≡ session.refusals → ended.script ≡ session.standing →
    IsSave (counts_one ended.counts) (was_filed ended.script) (ended.refusals).items (ended.script).book (written_of reply) →
    IsSave session.refused (was_filed session.standing) session.refusals (session.standing).book (written_of reply)
same_save ended session reply p q r h =
    subst (λ v. IsSave session.refused (was_filed v) session.refusals v.book (written_of reply)) r
    (subst (λ v. IsSave session.refused (was_filed ended.script) v (ended.script).book (written_of reply)) q
    (subst (λ v. IsSave v (was_filed ended.script) (ended.refusals).items (ended.script).book (written_of reply)) p h))

-- what was counted of it
pub record IsSavedWith (files : FileMap) (script : List ℕ) (reply : Reply) (spent : ℕ) : Type 0 where
  pub answer : Answer
  pub is : SaveAnswers files script answer
  pub text : reply.text.items ≡ answer.text
  pub refused : reply.refused ≡ answer.refused
  pub cost : spent ≡ answer.steps

pub saved_with : (before after : Outside) {first notes : NotesShown} {script : List ℕ} (files : FileMap) (ended : Unwritten) (reply : Reply) →
    RunMeets (with_notes (unwritten before) first) (with_notes (unwritten after) notes) script after.left (Ok ended.counts) → EndsUnwritten files script ended → before.files ≡ Some files →
    IsSave (counts_one ended.counts) (was_filed ended.script) (ended.refusals).items (ended.script).book (written_of reply) → IsSavedWith files script reply (after.steps - before.steps)
saved_with before after {script = script} files ended reply meets ends told save =
    let whole = meets.leaves.tells.whole files told in
    let same = one files script whole.session ends.session whole.is ends.is in
    let session = ends.session in
    record {
      answer = save_of reply session.steps;
      is = record {
        session = session;
        is = ends.is;
        there = whole.there;
        save = same_save ended session reply ends.mark ends.refusals ends.left save;
        cost = refl;
      };
      text = refl;
      refused = refl;
      cost = whole.cost ∙ ap (λ v. v.steps) same;
    }

module _ (before after : Outside) (ended : Unwritten) (reply : Reply) (first notes last : NotesShown)
    (meets : ForSome before.left (λ script.
    RunMeets (with_notes (unwritten before) first) (with_notes (unwritten after) notes) script after.left (Ok ended.counts)))
    (ends : ForSome before.left (λ script. ForSome before.files (λ files. EndsUnwritten files script ended)))
    (save : IsSave (counts_one ended.counts) (was_filed ended.script) (ended.refusals).items (ended.script).book (written_of reply))
    (summed : AreSummed before.left before.files ended.counts notes last) (kept : after.failed ≡ before.failed) where
  -- the answer was written whole
  pub leaves_whole : Appends before.written after.written reply.text.items →
      LeavesOnSave before after (record { counts = ended.counts; before = first; after = last }) (done_status reply.refused)
  leaves_whole appended = record {
    result = Ok ended.counts;
    counts = refl;
    notes = notes;
    meets = meets;
    summed = summed;
    out = reply.text.items;
    appended = appended;
    ends = record {
      ended = inl (written_whole reply.refused);
      whole = λ done script left files told.
          let with = saved_with before after files ended reply (meets script left) (ends script left files told) told save in
          record { answer = with.answer; is = with.is; text = with.text; cost = with.cost; ended = ap (λ r. done_status r) with.refused };
      cut = λ e. absurd (no_write reply.refused e);
    };
    kept = λ e. kept;
  }

  -- the sink failed
  pub leaves_cut : AppendsShort before.written after.written reply.text.items →
      LeavesOnSave before after (record { counts = ended.counts; before = first; after = last }) WriteFault
  unfolding saved_with
  leaves_cut part = record {
    result = Ok ended.counts;
    counts = refl;
    notes = notes;
    meets = meets;
    summed = summed;
    out = take part.count reply.text.items;
    appended = part.appended;
    ends = record {
      ended = inr refl;
      whole = λ done. absurd done;
      cut = λ e script left files told.
          let with = saved_with before after files ended reply (meets script left) (ends script left files told) told save in
          record { answer = with.answer; is = with.is; count = part.count; within = part.within; text = refl; cost = with.cost };
    };
    kept = λ e. kept;
  }

-- ---- the book

-- no answer is a refusal, and no month was filed: this is written of the book
pub saved_book : (refused : Bool) (standing : Standing) (refusals : List ℕ) (written : Written) → refused ≡ false → was_filed standing ≡ false →
    IsBookWritten standing.book written → IsSave refused (was_filed standing) refusals standing.book written
saved_book refused standing refusals written p q h =
    subst (λ (r : Bool). IsSave r (was_filed standing) refusals standing.book written) (sym p)
    (subst (λ (f : Bool). IsSave false f refusals standing.book written) (sym q) h)

-- its text is too long
pub long_book : (refused : Bool) (standing : Standing) (refusals : List ℕ) (book : Contents) (reply : Reply) → refused ≡ false → was_filed standing ≡ false →
    book ≡ standing.book → SaveSays book (Err unsaved.Long) →
    reply_of reply ≡ refusal (codes "book Long") → IsSave refused (was_filed standing) refusals standing.book (written_of reply)
long_book refused standing refusals book reply p q b says is =
    saved_book refused standing refusals (written_of reply) p q (record {
      verdict = Err unsaved.Long;
      says = subst (λ v. SaveSays v (Err unsaved.Long)) b says;
      is = ap (λ a. record { text = a.text; refused = a.refused }) is;
    })

-- ---- a stop before the end

pub leaves_stop : (before after : Outside) (first last : NotesShown) (stopped : Stopped) →
    ForSome before.left (λ script.
    RunMeets (with_notes (unwritten before) first) (with_notes (unwritten after) last) script after.left (Err stopped)) →
    after.written ≡ before.written → (stopped.stop ≢ stops.File → after.failed ≡ before.failed) →
    stopped.stop ≢ stops.Write →
    LeavesOnSave before after (record { counts = stopped.counts; before = first; after = last }) (status_of (Err stopped.stop))
leaves_stop before after first last stopped meets same kept no_write = record {
  result = Err stopped;
  counts = refl;
  notes = last;
  meets = meets;
  summed = refl;
  out = [];
  appended = subst (λ w. Appends before.written w []) (sym same) (Appends-nothing before.written);
  ends = record { nothing = refl; ended = refl; not_at_sink = no_write };
  kept = λ e. kept (λ s. e (ap (λ v. status_of (Err v)) s));
}

-- memory ran out behind its end
pub leaves_unsaid : (before after : Outside) (counts : LineCounts) (first notes last : NotesShown) →
    ForSome before.left (λ script.
    RunMeets (with_notes (unwritten before) first) (with_notes (unwritten after) notes) script after.left (Ok counts)) →
    after.written ≡ before.written → after.failed ≡ before.failed →
    LeavesOnSave before after (record { counts = counts; before = first; after = last }) NoMemory
leaves_unsaid before after counts first notes last meets same kept =
    leaves_stop before after first last (lost counts) (λ script left. no_more last (meets script left)) same (λ e. kept)
    (λ e. cc)

-- memory ran out before anything was touched
pub save_none : (o : Outside) (lines : Telling) → LeavesOnSave o o lines NoMemory
save_none o lines =
    record {
      result = Err (lost lines.counts);
      counts = refl;
      notes = lines.after;
      meets = λ script left. record {
        taken = [];
        rest = script;
        split = refl;
        left_rest = left;
        within = λ e. omega arith;
        leaves = record {
          out = [];
          appended = Appends-nothing None;
          counted = omega arith;
          front = λ files t session of. record { later = session.text; text = refl; cost = omega arith };
          tells = tt;
        };
      };
      summed = refl;
      out = [];
      appended = Appends-nothing o.written;
      ends = record { nothing = refl; ended = refl; not_at_sink = λ e. cc };
      kept = λ e. refl;
    }

-- ---- the headline

-- the script was answered to its end
at_end : (before after : Outside) {first notes : NotesShown} (script written : List ℕ) (files : FileMap) (out : List ℕ) (status : Status) (lines : LineCounts) →
    RunMeets (with_notes (unwritten before) first) (with_notes (unwritten after) notes) script after.left (Ok lines) →
    IsSaveEnd before after out status → Appends before.written after.written out → (status ≡ WriteFault → ⊥) →
    before.files ≡ Some files → before.left ≡ Some script → before.written ≡ Some written → IsSavedWhole files script written before after status
at_end before after script written files out status lines meets end appended no_fault told left said =
    let whole = end.whole (elim (end.ended) [
      | inl done ↦ done
      | inr fault ↦ absurd (no_fault fault)
    ]) script left files told in
    record {
      answer = whole.answer;
      is = whole.is;
      text = appended_told before.written after.written written out said appended ∙ ap (λ v. Some (written ++ v)) whole.text;
      end = meets.left_rest ∙ ap (λ v. Some v) meets.leaves.tells.read;
      cost = omega (arith, whole.cost, meets.leaves.counted);
      ended = whole.ended;
    }

headline_by : (before after : Outside) {first notes : NotesShown} (script written : List ℕ) (files : FileMap) (out : List ℕ) (status : Status) (r : RunResult) →
    RunMeets (with_notes (unwritten before) first) (with_notes (unwritten after) notes) script after.left r →
    SaveEnds before after out status r → Appends before.written after.written out →
    (status ≡ FileFault → ⊥) → (status ≡ ReadFault → ⊥) → (status ≡ WriteFault → ⊥) → (status ≡ NoMemory → ⊥) → length script ≤ most_script →
    before.files ≡ Some files → before.left ≡ Some script → before.written ≡ Some written → IsSavedWhole files script written before after status
headline_by before after script written files out status (Ok lines) meets ends appended file read write memory short told left said =
    at_end before after script written files out status lines meets ends appended write told left said
headline_by before after script written files out status (Err stopped) meets ends appended file read write memory short told left said =
    absurd (not_long script stopped (long_stop stopped.stop
    (λ e. file (ends.ended ∙ e)) (λ e. read (ends.ended ∙ e)) (λ e. write (ends.ended ∙ e)) (λ e. memory (ends.ended ∙ e)))
    meets short)

pub headline_save : (before after : Outside) (lines : Telling) (status : Status) →
    LeavesOnSave before after lines status →
    (status ≡ FileFault → Rose before.file_faults after.file_faults) → (status ≡ ReadFault → Rose before.source_faults after.source_faults) →
    (status ≡ WriteFault → Rose before.sink_faults after.sink_faults) → HeadlineOnSave before after status
headline_save before after lines status leaves file read write files told script left written said short memory still_f still_r still_w =
    headline_by before after script written files leaves.out status leaves.result (leaves.meets script left) leaves.ends leaves.appended
    (λ e. rose_and_still before.file_faults after.file_faults (file e) still_f) (λ e. rose_and_still before.source_faults after.source_faults (read e) still_r)
    (λ e. rose_and_still before.sink_faults after.sink_faults (write e) still_w) memory short told left said
