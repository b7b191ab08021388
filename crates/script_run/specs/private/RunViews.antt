-- What a run over a front of a script has done, for the contracts of its parts.
use Rattle.std.specs.Prelude.{◌≡◌, ℕ, ◌+◌, ◌-◌, ◌≤◌, ◌==◌, Bool, false, ◌||◌, List, [], ◌∷◌, ◌++◌, length, Option, Some, None, Vec, Result, Ok, Err, ⊤}
use Rattle.std.specs.declared.alloc.Global.{Global}
use Rattle.std.specs.Option.{ForSome}
use Rattle.std.specs.List.{slice_split}
use Rattle.std.specs.Io.KnownBytes.{IsAtEnd}
use Rattle.outside.specs.Told.{Appends, Consumes}
use Rattle.script_steps.specs.declared.stop.LineStop.{LineStop}
use Rattle.script_steps.specs.Steps.{Standing, Answer, IsStep, first_standing}
use Rattle.script_steps.specs.StepClauses.{IsAnswered}
use Rattle.outside.specs.Told.{FileMap}
use Rattle.script_run.specs.Limits.{most_script}
use Rattle.script_run.specs.Stops.{stop_of}
use Rattle.script_run.specs.Transcripts.{Session, ended_lines, refusal_of}
use Rattle.script_steps.specs.Shown.{OutsideShown}
use Rattle.script_run.specs.Notes.{IsToldOf, RunShown}
use Rattle.script_run.specs.RunClauses.{RunResult, RunLeaves}
use Rattle.script_run.specs.private.OpenLines.{Holds}
use Rattle.script_run.specs.private.RunClauses.{EndsAt, KeepsRefusals}
use Rattle.script_run.specs.declared.stop.Stop.{Stop}
use Rattle.script_run.specs.declared.reading.Reading.{Reading}
use Rattle.script_run.specs.LineCounts.{AreCounted, counts_one}
use Rattle.script_run.specs.private.LineCounts.{noted}
use Rattle.script_run.specs.declared.line_counts.LineCounts.{LineCounts}

-- ---- the lines so far, as running totals

-- before the first line
abbrev pub empty_session : Session
empty_session = record {
  text = [];
  refused = false;
  refusals = [];
  lines = 0;
  refused_lines = [];
  steps = 0;
  standing = first_standing;
}

-- after one more line, which has this answer and leaves this standing
abbrev pub with_answer : Session → Answer → Standing → Session
with_answer session answer standing = record {
  text = session.text ++ answer.text;
  refused = session.refused || answer.refused;
  refusals = session.refusals ++ refusal_of answer;
  lines = session.lines + 1;
  refused_lines = noted session.refused_lines (session.lines + 1) answer.refused;
  steps = session.steps + answer.steps;
  standing = standing;
}

-- these lines take one total to the other
abbrev pub Follow : FileMap → Session → List (List ℕ) → Session → Type 0
Follow files from [] to = to ≡ from
Follow files from (line ∷ lines) to =
    (standing : Standing) × (answer : Answer)
    × IsStep files from.standing line standing answer
    × Follow files (with_answer from answer standing) lines to

-- ---- the bytes so far

-- of the parts between LFs, the last
abbrev pub last_part : List (List ℕ) → List ℕ
last_part [] = []
last_part (part ∷ []) = part
last_part (part ∷ next ∷ more) = last_part (next ∷ more)

-- what stands after the last LF
abbrev pub open_line : List ℕ → List ℕ
open_line bytes = last_part (slice_split (λ b. b == 10) bytes)

-- where refusals are kept, the answer was put to them where it is one
abbrev pub Keeps : Option (Vec ℕ Global) → Option (Vec ℕ Global) → Answer → Type 0
Keeps None None answer = ⊤
Keeps (Some was) (Some is) answer = is.items ≡ was.items ++ refusal_of answer
Keeps was is answer = ⊥

-- the line was answered, and its answer was written or kept
pub record IsDelivered
    (old new : OutsideShown) (from to : Standing) (was is : Option (Vec ℕ Global))
    (line : List ℕ) (refused : Bool) : Type 0 where
  pub answered : IsAnswered old new from to line refused
  pub kept : Keeps was is answered.answer

-- of these bytes each line whose LF is among them was answered, and nothing else was written or kept
pub record Stands (before now : RunShown) (bytes : List ℕ) (reading : Reading) : Type 0 where
  pub out : List ℕ
  pub refusals : List ℕ
  pub lines : ℕ
  pub refused_lines : List ℕ
  pub same : now.files ≡ before.files
  pub appended : Appends before.written now.written out
  pub counted : before.steps ≤ now.steps
  pub held : Holds reading.line (open_line bytes)
  pub kept : KeepsRefusals reading.refusals refusals
  pub told : IsToldOf lines refused_lines
      (record { counts = reading.counts; before = before.notes; after = now.notes })
  pub answered : ForSome before.files (λ files. Follow files empty_session (ended_lines bytes)
      (record {
        text = out;
        refused = counts_one reading.counts;
        refusals = refusals;
        lines = lines;
        refused_lines = refused_lines;
        steps = now.steps - before.steps;
        standing = reading.script;
      }))

-- wherever the run stood over some bytes, it stands over these more
pub record GoesOn (old new : RunShown) (was is : Reading) (more : List ℕ) : Type 0 where
  pub on : (before : RunShown) (bytes : List ℕ) → Stands before old bytes was →
      Stands before new (bytes ++ more) is

-- the run stopped behind so many lines
abbrev pub stopped_at : Stop → LineCounts → RunResult
stopped_at stop counts = Err (record { stop = stop; counts = counts })

-- wherever the run stood over some bytes, what a stop within these more leaves, whatever is left of the script
pub record Breaks (old new : RunShown) (was : Reading) (counts : LineCounts) (more : List ℕ)
    (stop : LineStop) : Type 0 where
  pub on : (before : RunShown) (bytes rest : List ℕ) → Stands before old bytes was
      → RunLeaves (length more) before new ((bytes ++ more) ++ rest) (bytes ++ more) rest
      (stopped_at (stop_of stop) counts)

-- what reading to the end comes to, behind so many lines
abbrev pub read_result : Result ⊤ Stop → LineCounts → RunResult
read_result (Ok _) counts = Ok counts
read_result (Err stop) counts = stopped_at stop counts

-- the last line's answer, behind so many lines
abbrev pub last_result : Result ⊤ LineStop → LineCounts → RunResult
last_result (Ok _) counts = Ok counts
last_result (Err stop) counts = stopped_at (stop_of stop) counts

-- wherever the run stood over a whole script, what its end leaves
pub record Closes (old new : RunShown) (was : Reading) (result : RunResult) : Type 0 where
  pub on : (before : RunShown) (script : List ℕ) → Stands before old script was
      → RunLeaves 0 before new script script [] result

-- wherever the run stood over a whole script, what its lines have left
pub record ClosesAt (old : RunShown) (was : Reading) (standing : Standing)
    (kept : Option (Vec ℕ Global)) (counts : LineCounts) : Type 0 where
  pub on : (before : RunShown) (script : List ℕ) → Stands before old script was
      → ForSome before.files (λ files. EndsAt files script standing kept counts)

-- nothing of a script was read yet
pub record IsAtStart (reading : Reading) : Type 0 where
  pub line : Holds reading.line []
  pub script : reading.script ≡ first_standing
  pub refusals : KeepsRefusals reading.refusals []
  pub counts : AreCounted 0 [] reading.counts

-- of a run over a source, at its end
pub record TakesAll (before now : RunShown) (left left_now : Option (List ℕ))
    (reading : Reading) : Type 0 where
  pub bytes : List ℕ
  pub consumed : Consumes left left_now bytes
  pub within : length bytes ≤ most_script
  pub ends : IsAtEnd left_now
  pub stands : Stands before now bytes reading
