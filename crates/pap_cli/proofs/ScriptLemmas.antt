-- What a run over a script leaves, and the headline from what each status says.
use Rattle.std.proofs.Common.{◌≡◌, ◌≢◌, ℕ, ◌≤◌, List, [], ◌++◌, length, refl, sym, ap, ◌∙◌, subst, arith}
use Rattle.std.specs.Prelude.{Option, Some, Ok, Err}
use Rattle.std.specs.Option.{ForSome}
use Rattle.outside.specs.Causes.{Rose}
use Rattle.outside.specs.Told.{FileMap}
use Rattle.outside.proofs.Laws.{Appends-nothing}
use Rattle.script_run.specs.Limits.{most_script}
use Rattle.script_steps.specs.Shown.{OutsideShown}
use Rattle.script_run.specs.LineCounts.{counts_one}
use Rattle.script_run.specs.Notes.{NotesShown, Telling, with_notes}
use Rattle.script_run.specs.RunClauses.{RunMeets, RunResult, ended_of}
use Rattle.script_run.specs.declared.line_counts.LineCounts.{LineCounts}
use Rattle.script_run.specs.declared.stop.Stopped.{Stopped}
use Rattle.script_run.specs.declared.stop.Stop.TheVariants as stops
use Rattle.pap_cli.specs.declared.status.Status.{Status}
use Rattle.pap_cli.specs.declared.status.Status.TheVariants.{FileFault, ReadFault, WriteFault, NoMemory}
use Rattle.pap_cli.specs.Statuses.{done_status, status_of}
use Rattle.pap_cli.specs.Notes.{AreSummed}
use Rattle.pap_cli.specs.Outside.{Outside, shown_of}
use Rattle.pap_cli.specs.ScriptClauses.{LeavesOnScript, IsTranscribed, HeadlineOnScript}
use Rattle.pap_cli.proofs.StatusLemmas.{appended_told, long_stop, not_long, rose_and_still}

-- ---- what the run of a script leaves

-- memory ran out, behind so many lines
abbrev pub lost : LineCounts → Stopped
lost counts = record { stop = stops.Memory; counts = counts }

-- a run that came to its end, of which no more is said
pub no_more : {old new : OutsideShown} {first notes : NotesShown} {script : List ℕ} {left : Option (List ℕ)}
    {counts : LineCounts} (last : NotesShown) →
    RunMeets (with_notes old first) (with_notes new notes) script left (Ok counts) →
    RunMeets (with_notes old first) (with_notes new last) script left (Err (lost counts))
no_more last meets = record {
  taken = meets.taken;
  rest = meets.rest;
  split = meets.split;
  left_rest = meets.left_rest;
  within = λ e. meets.within (λ k. cc);
  leaves = record {
    out = meets.leaves.out;
    appended = meets.leaves.appended;
    counted = meets.leaves.counted;
    front = meets.leaves.front;
    tells = tt;
  };
}

-- it came to its end, and was summed up
pub script_end : (before after : Outside) (first notes last : NotesShown) (counts : LineCounts) →
    ForSome before.left (λ script.
    RunMeets (with_notes (shown_of before) first) (with_notes (shown_of after) notes) script after.left (Ok counts)) →
    after.failed ≡ before.failed → AreSummed before.left before.files counts notes last →
    LeavesOnScript before after (record { counts = counts; before = first; after = last }) (done_status (counts_one counts))
script_end before after first notes last counts meets kept summed = record {
  result = Ok counts;
  ended = refl;
  counts = refl;
  notes = notes;
  meets = meets;
  summed = summed;
  kept = λ e. kept;
}

-- it stopped before its end
pub script_stop : (before after : Outside) (first last : NotesShown) (stopped : Stopped) →
    ForSome before.left (λ script.
    RunMeets (with_notes (shown_of before) first) (with_notes (shown_of after) last) script after.left (Err stopped)) →
    (stopped.stop ≢ stops.File → after.failed ≡ before.failed) →
    LeavesOnScript before after (record { counts = stopped.counts; before = first; after = last }) (status_of (Err stopped.stop))
script_stop before after first last stopped meets kept = record {
  result = Err stopped;
  ended = refl;
  counts = refl;
  notes = last;
  meets = meets;
  summed = refl;
  kept = λ e. kept (λ s. e (ap (λ v. status_of (Err v)) s));
}

-- it came to its end, and memory ran out where it was to be summed up
pub script_unsaid : (before after : Outside) (first notes last : NotesShown) (counts : LineCounts) →
    ForSome before.left (λ script.
    RunMeets (with_notes (shown_of before) first) (with_notes (shown_of after) notes) script after.left (Ok counts)) →
    after.failed ≡ before.failed →
    LeavesOnScript before after (record { counts = counts; before = first; after = last }) NoMemory
script_unsaid before after first notes last counts meets kept =
    script_stop before after first last (lost counts) (λ script left. no_more last (meets script left)) (λ e. kept)

-- ---- the headline

-- what a script that was carried out to its end leaves
ended : (before after : Outside) {first last : NotesShown} (script written : List ℕ) (files : FileMap) (lines : LineCounts) →
    RunMeets (with_notes (shown_of before) first) (with_notes (shown_of after) last) script after.left (Ok lines) →
    before.files ≡ Some files → before.written ≡ Some written →
    IsTranscribed files script written before after (done_status (counts_one lines))
ended before after script written files lines meets told said =
    let left = meets.leaves in
    let whole = left.tells.whole files told in
    record {
      session = whole.session;
      is = whole.is;
      there = whole.there;
      text = appended_told before.written after.written written left.out said left.appended ∙ ap (λ v. Some (written ++ v)) whole.text;
      end = meets.left_rest ∙ ap (λ v. Some v) left.tells.read;
      cost = omega (arith, whole.cost, left.counted);
      ended = ap (λ r. done_status r) whole.mark;
    }

headline_by : (before after : Outside) {first last : NotesShown} (script written : List ℕ) (files : FileMap) (r : RunResult) →
    RunMeets (with_notes (shown_of before) first) (with_notes (shown_of after) last) script after.left r →
    (status_of (ended_of r) ≡ FileFault → ⊥) → (status_of (ended_of r) ≡ ReadFault → ⊥) →
    (status_of (ended_of r) ≡ WriteFault → ⊥) →
    before.files ≡ Some files → before.written ≡ Some written → length script ≤ most_script →
    status_of (ended_of r) ≢ NoMemory →
    IsTranscribed files script written before after (status_of (ended_of r))
headline_by before after script written files (Ok lines) meets file read write told said short memory =
    ended before after script written files lines meets told said
headline_by before after script written files (Err stopped) meets file read write told said short memory =
    absurd (not_long script stopped (long_stop stopped.stop file read write memory) meets short)

pub headline_script : (before after : Outside) (lines : Telling) (status : Status) →
    LeavesOnScript before after lines status →
    (status ≡ FileFault → Rose before.file_faults after.file_faults) →
    (status ≡ ReadFault → Rose before.source_faults after.source_faults) →
    (status ≡ WriteFault → Rose before.sink_faults after.sink_faults) → HeadlineOnScript before after status
headline_script before after lines status leaves file read write files told script left written said short memory still_f still_r still_w =
    let is = leaves.ended in
    subst (λ s. IsTranscribed files script written before after s) (sym is)
    (headline_by before after script written files leaves.result (leaves.meets script left)
    (λ e. rose_and_still before.file_faults after.file_faults (file (is ∙ e)) still_f)
    (λ e. rose_and_still before.source_faults after.source_faults (read (is ∙ e)) still_r)
    (λ e. rose_and_still before.sink_faults after.sink_faults (write (is ∙ e)) still_w) told said short
    (λ e. memory (is ∙ e)))

-- ---- memory ran out before anything was touched

pub script_none : (o : Outside) (lines : Telling) → LeavesOnScript o o lines NoMemory
script_none o lines = record {
  result = Err (lost lines.counts);
  ended = refl;
  counts = refl;
  notes = lines.after;
  meets = λ script left. record {
    taken = [];
    rest = script;
    split = refl;
    left_rest = left;
    within = λ e. omega arith;
    leaves = record {
      out = [];
      appended = Appends-nothing o.written;
      counted = omega arith;
      front = λ files t session of. record { later = session.text; text = refl; cost = omega arith };
      tells = tt;
    };
  };
  summed = refl;
  kept = λ e. refl;
}
