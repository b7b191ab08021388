-- What `save` leaves and tells, by its status.
use Rattle.std.specs.Prelude.{◌≡◌, ◌≢◌, ◌⊎◌, ℕ, ◌+◌, ◌-◌, ◌≤◌, List, [], ◌++◌, length, Some, None, Ok, Err}
use Rattle.std.specs.Option.{ForSome}
use Rattle.outside.specs.Causes.{Still}
use Rattle.outside.specs.Told.{FileMap, Appends}
use Rattle.plan_answers.specs.Answers.{Answer}
use Rattle.script_run.specs.Limits.{most_script}
use Rattle.script_steps.specs.Shown.{OutsideShown, shown}
use Rattle.script_run.specs.Notes.{NotesShown, Telling, with_notes}
use Rattle.script_run.specs.RunClauses.{RunMeets, RunResult, counts_of}
use Rattle.script_run.specs.declared.stop.Stop.{Stop}
use Rattle.script_run.specs.declared.stop.Stop.TheVariants as stops
use Rattle.pap_cli.specs.declared.status.Status.{Status}
use Rattle.pap_cli.specs.declared.status.Status.TheVariants as statuses
use Rattle.pap_cli.specs.Statuses.{done_status, status_of, IsDone}
use Rattle.pap_cli.specs.Notes.{SumsUp}
use Rattle.pap_cli.specs.Outside.{Outside}
use Rattle.pap_cli.specs.FileClauses.{IsWrittenWhole, IsWrittenShort}
use Rattle.pap_cli.specs.SaveAnswers.{SaveAnswers}

-- what is shown of a run that writes nothing: the files and the counter
abbrev pub unwritten : Outside → OutsideShown
unwritten o = shown o.files o.failed None o.steps

-- the script was answered to its end: the answer was written whole, or a prefix of it where the sink failed
pub record IsSaveEnd (before after : Outside) (out : List ℕ) (status : Status) : Type 0 where
  pub ended : IsDone status ⊎ (status ≡ statuses.WriteFault)
  pub whole : IsDone status → ForSome before.left (λ script. ForSome before.files (λ files.
      IsWrittenWhole (SaveAnswers files script) out (after.steps - before.steps) status))
  pub cut : status ≡ statuses.WriteFault → ForSome before.left (λ script. ForSome before.files (λ files.
      IsWrittenShort (SaveAnswers files script) out (after.steps - before.steps)))

-- the script's run stopped, never at the sink: nothing was written
pub record IsSaveStop (out : List ℕ) (status : Status) (stop : Stop) : Type 0 where
  pub nothing : out ≡ []
  pub ended : status ≡ status_of (Err stop)
  pub not_at_sink : stop ≢ stops.Write

-- what `save` leaves, by how the run of its script ended
abbrev pub SaveEnds : Outside → Outside → List ℕ → Status → RunResult → Type 0
SaveEnds before after out status (Ok counts) = IsSaveEnd before after out status
SaveEnds before after out status (Err stopped) = IsSaveStop out status stopped.stop

-- what the call leaves: how the script's run ended, which wrote nothing, what it told of refused lines, and what was written
-- then. The notes have the reasons of refused lines, and then the sum of the script
pub record LeavesOnSave (before after : Outside) (told : Telling) (status : Status) : Type 0 where
  pub result : RunResult
  pub counts : told.counts ≡ counts_of result
  pub notes : NotesShown
  pub meets : ForSome before.left (λ script.
      RunMeets (with_notes (unwritten before) told.before) (with_notes (unwritten after) notes) script after.left result)
  pub summed : SumsUp before.left before.files result notes told.after
  pub out : List ℕ
  pub appended : Appends before.written after.written out
  pub ends : SaveEnds before after out status result
  pub kept : status ≢ statuses.FileFault → after.failed ≡ before.failed

-- all files that the script names are there, the answer was written whole, the source is at its end, the counter rose by the
-- steps of the script's lines, and the status says whether the answer is a refusal
pub record IsSavedWhole
    (files : FileMap) (script written : List ℕ) (before after : Outside)
    (status : Status) : Type 0 where
  pub answer : Answer
  pub is : SaveAnswers files script answer
  pub text : after.written ≡ Some (written ++ answer.text)
  pub end : after.left ≡ Some []
  pub cost : after.steps ≡ before.steps + answer.steps
  pub ended : status ≡ done_status answer.refused

-- where the files, the source and the sink tell what they hold, while memory is there, no call of them fails and the
-- script has at most 67,108,864 bytes, the answer of `save` was written whole
abbrev pub HeadlineOnSave : Outside → Outside → Status → Type 0
HeadlineOnSave before after status =
    ForSome before.files (λ files. ForSome before.left (λ script. ForSome before.written (λ written.
    length script ≤ most_script → status ≢ statuses.NoMemory
    → Still before.file_faults after.file_faults → Still before.source_faults after.source_faults
    → Still before.sink_faults after.sink_faults
    → IsSavedWhole files script written before after status)))
