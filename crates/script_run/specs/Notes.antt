-- What is put to the notes of a script: why each refused line is refused, right behind its answer.
use Rattle.std.specs.Prelude.{◌≡◌, ℕ, ◌≤◌, List, [], ◌∷◌, ◌++◌, All, Option, codes, map}
use Rattle.std.specs.Fmt.{decimal}
use Rattle.std.specs.List.{flat_map}
use Rattle.outside.specs.Causes.{Still}
use Rattle.outside.specs.Told.{FileMap, Appends}
use Rattle.outside.specs.declared.traits.Files.{Ghosts as FilesTell}
use Rattle.outside.specs.declared.traits.Sink.{Ghosts as SinkTells}
use Rattle.plain_words.specs.Lines.{IsOneLine}
use Rattle.script_steps.specs.Shown.{OutsideShown, shown_by}
use Rattle.script_run.specs.LineCounts.{AreCounted, told_number}
use Rattle.script_run.specs.declared.line_counts.LineCounts.{LineCounts}

-- what notes show: what was put to them, where they tell it, and how many of their calls failed
pub record NotesShown : Type 0 where
  pub written : Option (List ℕ)
  pub faults : ℕ

-- what this sink shows as notes
abbrev pub notes_shown : {N : Type 0} → SinkTells N → N → NotesShown
notes_shown of_notes notes = record { written = of_notes.written notes; faults = of_notes.faults notes }

-- this text was put to them, unless a call of theirs failed
pub record AreNoted (before after : NotesShown) (text : List ℕ) : Type 0 where
  pub later : before.faults ≤ after.faults
  pub put : Still before.faults after.faults → Appends before.written after.written text

-- why a line of a script is refused: the line's number, and words
pub record Reason : Type 0 where
  pub number : ℕ
  pub words : List ℕ

-- the line of a reason: stdin:NUMBER: WORDS
abbrev pub reason_line : Reason → List ℕ
reason_line reason =
    codes "stdin:" ++ (decimal reason.number ++ (codes ": " ++ (reason.words ++ (10 ∷ []))))

-- the reason of each of these lines was put to the notes, one after another: a line each, whose words are one line
pub record AreToldTo (before after : NotesShown) (refused : List ℕ) : Type 0 where
  pub reasons : List Reason
  pub numbers : map (λ (reason : Reason). reason.number) reasons ≡ map told_number refused
  pub lines : All (λ (reason : Reason). IsOneLine reason.words) reasons
  pub put : AreNoted before after (flat_map reason_line reasons)

-- what is told of refused lines: how many there are, and what the notes show before and after
pub record Telling : Type 0 where
  pub counts : LineCounts
  pub before : NotesShown
  pub after : NotesShown

-- so many lines were answered, and those with these numbers were refused: they are counted, and the reason of each was
-- put to the notes
pub record IsToldOf (answered : ℕ) (refused : List ℕ) (told : Telling) : Type 0 where
  pub counted : AreCounted answered refused told.counts
  pub reasons : AreToldTo told.before told.after refused

-- what the files tell, the name at which they failed last, what was written, the counter of steps, and the notes
pub record RunShown : Type 0 where
  pub files : Option FileMap
  pub failed : Option (List ℕ)
  pub written : Option (List ℕ)
  pub steps : ℕ
  pub notes : NotesShown

-- what an outside shows, with notes
abbrev pub with_notes : OutsideShown → NotesShown → RunShown
with_notes s notes = record {
  files = s.files;
  failed = s.failed;
  written = s.written;
  steps = s.steps;
  notes = notes;
}

-- what files, a sink, notes and a counter show
abbrev pub run_shown : {F W N : Type 0} → FilesTell F → SinkTells W → SinkTells N → F → W → N → ℕ → RunShown
run_shown of_files of_sink of_notes files sink notes steps =
    with_notes (shown_by of_files of_sink files sink steps) (notes_shown of_notes notes)
