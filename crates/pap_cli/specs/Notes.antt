-- What a call puts to its notes: why the answer on two files is a refusal, and what is said of a script.
use Rattle.std.specs.Prelude.{◌≡◌, ◌≢◌, ℕ, nat_lt, if◌then◌else◌, List, [], ◌∷◌, ◌++◌, codes, Option, Ok, Err}
use Rattle.std.specs.Fmt.{decimal}
use Rattle.std.specs.Option.{ForSome}
use Rattle.outside.specs.Told.{FileMap}
use Rattle.outside.specs.declared.traits.Sink.{Ghosts as SinkTells}
use Rattle.script_run.specs.Notes.{AreNoted, NotesShown, Telling, notes_shown}
use Rattle.open_runs.specs.OpenRuns.{open_line}
use Rattle.recalc_engine.specs.Contents.{Contents}
use Rattle.script_run.specs.RunClauses.{RunResult}
use Rattle.script_run.specs.Transcripts.{Session, IsTranscript}
use Rattle.script_run.specs.declared.line_counts.LineCounts.{LineCounts}
use Rattle.pap_cli.specs.Reasons.{IsReasonFor}
use Rattle.pap_cli.specs.ScriptWords.{AsksOfFiles, ReadsScript, AskForScript}
use Rattle.pap_cli.specs.Words.{Form, HasForm}
use Rattle.pap_cli.specs.declared.status.Status.{Status}
use Rattle.pap_cli.specs.declared.status.Status.TheVariants.{Refused}

-- a line of how many lines of a script were refused, where several were: papcalc: N lines were refused
abbrev pub refused_summary : ℕ → List ℕ
refused_summary refused =
    if nat_lt 1 refused
    then codes "papcalc: " ++ (decimal refused ++ (codes " lines were refused" ++ (10 ∷ [])))
    else []

-- the script leaves this book
pub record LeavesBook (files : FileMap) (script : List ℕ) (book : Contents) : Type 0 where
  pub session : Session
  pub is : IsTranscript files script session
  pub book_is : session.standing.book ≡ book

-- it was put to them how many lines of the script were refused, and how many runs of the book that it leaves have no amounts
pub record AreSummed
    (left : Option (List ℕ)) (files : Option FileMap) (counts : LineCounts) (before after : NotesShown) : Type 0 where
  pub book : Contents
  pub leaves : ForSome left (λ script. ForSome files (λ files. LeavesBook files script book))
  pub put : AreNoted before after (refused_summary counts.refused ++ open_line book)

-- what is put to them behind the lines of a script: at its end that sum, and else nothing
abbrev pub SumsUp : Option (List ℕ) → Option FileMap → RunResult → NotesShown → NotesShown → Type 0
SumsUp left files (Ok counts) before after = AreSummed left files counts before after
SumsUp left files (Err stopped) before after = after ≡ before

-- what a call tells of a script's lines, by the notes before and after it
abbrev pub telling : {N : Type 0} → SinkTells N → LineCounts → N → N → Telling
telling of_notes counts before after =
    record { counts = counts; before = notes_shown of_notes before; after = notes_shown of_notes after }

-- the reason of a refusal was put to them: lines
pub record HasReason (form : Form) (told : Option FileMap) (before after : NotesShown) : Type 0 where
  pub text : List ℕ
  pub is : IsReasonFor form told text
  pub put : AreNoted before after text

-- what a call leaves of its notes: where the answer on two files is a refusal, its reason was put to them; what a script
-- puts to them stands with what it leaves; else they are as they were
pub record NotesTell {N : Type 0} (of_notes : SinkTells N) (words : List (List ℕ)) (told : Option FileMap) (before after : N) (status : Status) : Type 0 where
  pub reason : (form : Form) → HasForm words form → AsksOfFiles form → status ≡ Refused
      → HasReason form told (notes_shown of_notes before) (notes_shown of_notes after)
  pub silent : ¬ (AskForScript words) → status ≢ Refused → after ≡ before
  pub other : (form : Form) → HasForm words form → ¬ (AsksOfFiles form) → ¬ (ReadsScript form) → after ≡ before
