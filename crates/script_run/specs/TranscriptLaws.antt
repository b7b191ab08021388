-- That every script has exactly one transcript, and leaves a book that can be saved.
use Rattle.std.specs.Prelude.{◌≡◌, ℕ, List}
use Rattle.outside.specs.Told.{FileMap}
use Rattle.script_steps.specs.GoingOn.{IsSavable}
use Rattle.script_run.specs.Transcripts.{Session, IsTranscript}

-- the script has a transcript
pub record HasTranscript (files : FileMap) (script : List ℕ) : Type 0 where
  pub session : Session
  pub is : IsTranscript files script session

-- every script has a transcript
abbrev pub ScriptsHaveATranscript : Type 0
ScriptsHaveATranscript = (files : FileMap) (script : List ℕ) → HasTranscript files script

-- no script has two transcripts
abbrev pub ScriptsHaveOneTranscript : Type 0
ScriptsHaveOneTranscript =
    (files : FileMap) (script : List ℕ) (session other : Session)
    → IsTranscript files script session → IsTranscript files script other → session ≡ other

-- the book that it leaves is as every book is, and what is saved of it has a text
abbrev pub ScriptsLeaveBooks : Type 0
ScriptsLeaveBooks =
    (files : FileMap) (script : List ℕ) (session : Session)
    → IsTranscript files script session → IsSavable session.standing.book
