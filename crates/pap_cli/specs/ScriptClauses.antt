-- What `run` leaves and tells, by its status.
use Rattle.std.specs.Prelude.{◌≡◌, ◌≢◌, ℕ, ◌+◌, ◌≤◌, List, [], ◌++◌, length, All, Some}
use Rattle.std.specs.Option.{ForSome}
use Rattle.outside.specs.Causes.{Still}
use Rattle.outside.specs.Told.{FileMap}
use Rattle.script_steps.specs.Steps.{AreThere}
use Rattle.script_run.specs.Limits.{most_script}
use Rattle.script_run.specs.Transcripts.{Session, lines_of, IsTranscript}
use Rattle.script_run.specs.Notes.{NotesShown, Telling, with_notes}
use Rattle.script_run.specs.RunClauses.{RunMeets, RunResult, counts_of, ended_of}
use Rattle.pap_cli.specs.declared.status.Status.{Status}
use Rattle.pap_cli.specs.declared.status.Status.TheVariants as statuses
use Rattle.pap_cli.specs.Statuses.{done_status, status_of}
use Rattle.pap_cli.specs.Notes.{SumsUp}
use Rattle.pap_cli.specs.Outside.{Outside, shown_of}

-- what a run leaves, and what it tells of refused lines; of the text where the source tells the script and the files what
-- they hold. The notes have the reasons of refused lines, and then the sum of the script
pub record LeavesOnScript (before after : Outside) (told : Telling) (status : Status) : Type 0 where
  pub result : RunResult
  pub ended : status ≡ status_of (ended_of result)
  pub counts : told.counts ≡ counts_of result
  pub notes : NotesShown
  pub meets : ForSome before.left (λ script.
      RunMeets (with_notes (shown_of before) told.before) (with_notes (shown_of after) notes) script after.left result)
  pub summed : SumsUp before.left before.files result notes told.after
  pub kept : status ≢ statuses.FileFault → after.failed ≡ before.failed

-- all files that the script names are there, its transcript was written whole, the source is at its end, the counter rose by
-- the transcript's steps, and the status says whether it has a refusal
pub record IsTranscribed
    (files : FileMap) (script written : List ℕ) (before after : Outside)
    (status : Status) : Type 0 where
  pub session : Session
  pub is : IsTranscript files script session
  pub there : All (λ line. AreThere files line) (lines_of script)
  pub text : after.written ≡ Some (written ++ session.text)
  pub end : after.left ≡ Some []
  pub cost : after.steps ≡ before.steps + session.steps
  pub ended : status ≡ done_status session.refused

-- where the files, the source and the sink tell what they hold, while memory is there, no call of them fails and the
-- script has at most 67,108,864 bytes, its transcript was written whole
abbrev pub HeadlineOnScript : Outside → Outside → Status → Type 0
HeadlineOnScript before after status =
    ForSome before.files (λ files. ForSome before.left (λ script. ForSome before.written (λ written.
    length script ≤ most_script → status ≢ statuses.NoMemory
    → Still before.file_faults after.file_faults → Still before.source_faults after.source_faults
    → Still before.sink_faults after.sink_faults
    → IsTranscribed files script written before after status)))
