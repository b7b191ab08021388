-- What private contracts cite beside the definitions of RunClauses.
use Rattle.std.specs.Prelude.{◌≡◌, ℕ, if◌then◌else◌, List, Option, Some, None, is_some, Vec, ⊤}
use Rattle.std.specs.declared.alloc.Global.{Global}
use Rattle.outside.specs.Told.{FileMap}
use Rattle.outside.specs.declared.traits.Files.{Ghosts as FilesTell}
use Rattle.outside.specs.declared.traits.Sink.{Ghosts as SinkTells}
use Rattle.script_steps.specs.Shown.{OutsideShown, shown, shown_by}
use Rattle.script_steps.specs.Steps.{Standing}
use Rattle.script_run.specs.Transcripts.{Session, IsTranscript}
use Rattle.script_run.specs.LineCounts.{AreCounted}
use Rattle.script_run.specs.Notes.{RunShown, notes_shown, with_notes}
use Rattle.script_run.specs.declared.line_counts.LineCounts.{LineCounts}

-- what is shown of a sink: nothing, where answers are kept and not written
abbrev pub told_by : Option (Vec ℕ Global) → Option (List ℕ) → Option (List ℕ)
told_by kept written = if is_some kept then None else written

abbrev pub unless_kept : Option (Vec ℕ Global) → OutsideShown → OutsideShown
unless_kept kept s = shown s.files s.failed (told_by kept s.written) s.steps

-- what files, a sink beside what is kept, and a counter show
abbrev pub shown_beside :
    Option (Vec ℕ Global) → {F W : Type 0} → FilesTell F → SinkTells W → F → W → ℕ → OutsideShown
shown_beside kept of_files of_sink files sink steps = unless_kept kept (shown_by of_files of_sink files sink steps)

-- the same with what the notes show
abbrev pub beside : Option (Vec ℕ Global) → {F W N : Type 0} → FilesTell F → SinkTells W → SinkTells N
    → F → W → N → ℕ → RunShown
beside kept of_files of_sink of_notes files sink notes steps =
    with_notes (shown_beside kept of_files of_sink files sink steps) (notes_shown of_notes notes)

-- the same without the notes
abbrev pub without_notes : RunShown → OutsideShown
without_notes s = shown s.files s.failed s.written s.steps

-- where refusals are kept, they are these
abbrev pub KeepsRefusals : Option (Vec ℕ Global) → List ℕ → Type 0
KeepsRefusals None refusals = ⊤
KeepsRefusals (Some kept) refusals = kept.items ≡ refusals

-- the lines of the script have left this at last, where refusals were kept they are these, and so many there were
pub record EndsAt (files : FileMap) (script : List ℕ) (standing : Standing)
    (kept : Option (Vec ℕ Global)) (counts : LineCounts) : Type 0 where
  pub session : Session
  pub is : IsTranscript files script session
  pub left : session.standing ≡ standing
  pub refusals : KeepsRefusals kept session.refusals
  pub counted : AreCounted session.lines session.refused_lines counts
