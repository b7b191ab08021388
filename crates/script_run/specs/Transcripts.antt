-- What a script answers over files that stay as they are, line by line. Source: docs/PROFILE.md, "Scripts".
use Rattle.std.specs.Prelude.{◌≡◌, ℕ, Bool, ◌==◌, if◌then◌else◌, List, [], ◌∷◌, ◌++◌, length, map, filter, flat_map, sum_by, ⊤}
use Rattle.std.specs.List.{enumerate_from, list_any, slice_split}
use Rattle.std.specs.Str.Lines.{lines, strip_carriage_return}
use Rattle.outside.specs.Told.{FileMap}
use Rattle.script_steps.specs.GoingOn.{AreSteps}
use Rattle.script_steps.specs.Steps.{Standing, first_standing, Answer, AreThere}

-- the lines of a script: it is cut at each LF, a CR right before an LF is dropped, and a last line
-- without LF counts where it isn't empty
abbrev pub lines_of : List ℕ → List (List ℕ)
lines_of script = lines script

-- of the parts between LFs, those that an LF ends, without a CR at their end
abbrev pub ended_parts : List (List ℕ) → List (List ℕ)
ended_parts [] = []
ended_parts (part ∷ []) = []
ended_parts (part ∷ next ∷ more) = strip_carriage_return part ∷ ended_parts (next ∷ more)

-- the lines whose LF is among these bytes
abbrev pub ended_lines : List ℕ → List (List ℕ)
ended_lines bytes = ended_parts (slice_split (λ b. b == 10) bytes)

-- what some lines have made: all that was written, whether an answer was a refusal, the answers that were, how many lines
-- there were, which of them were refused, counted from 1, all steps, and what they have left
pub record Session : Type 0 where
  pub text : List ℕ
  pub refused : Bool
  pub refusals : List ℕ
  pub lines : ℕ
  pub refused_lines : List ℕ
  pub steps : ℕ
  pub standing : Standing

-- the answer where it is a refusal, else nothing
abbrev pub refusal_of : Answer → List ℕ
refusal_of answer = if answer.refused then answer.text else []

-- the numbers of the answers that are refusals, where the first has this number
abbrev pub refused_from : ℕ → List Answer → List ℕ
refused_from first answers =
    map (λ (at : ℕ × Answer). at.0) (filter (λ (at : ℕ × Answer). (at.1).refused) (enumerate_from first answers))

-- what lines have made that have these answers, one after another, and leave this
abbrev pub session_of : List Answer → Standing → Session
session_of answers left = record {
  text = flat_map (λ (answer : Answer). answer.text) answers;
  refused = list_any (λ (answer : Answer). answer.refused) answers;
  refusals = flat_map refusal_of answers;
  lines = length answers;
  refused_lines = refused_from 1 answers;
  steps = sum_by (λ (answer : Answer). answer.steps) answers;
  standing = left;
}

-- the lines are answered one after another, from the first of a script on
pub record AreAnswered (files : FileMap) (lines : List (List ℕ)) (session : Session) : Type 0 where
  pub answers : List Answer
  pub left : Standing
  pub each : AreSteps files first_standing lines left answers
  pub is : session ≡ session_of answers left

-- no line is left, or the next one names a file that isn't there
abbrev pub IsHalted : FileMap → List (List ℕ) → Type 0
IsHalted files [] = ⊤
IsHalted files (line ∷ lines) = ¬ (AreThere files line)

-- the lines are answered one after another, up to the first that names a file that isn't there
pub record IsSession (files : FileMap) (lines : List (List ℕ)) (session : Session) : Type 0 where
  pub before : List (List ℕ)
  pub after : List (List ℕ)
  pub parts : lines ≡ before ++ after
  pub answered : AreAnswered files before session
  pub halted : IsHalted files after

-- the transcript of a script: the answers to its lines
abbrev pub IsTranscript : FileMap → List ℕ → Session → Type 0
IsTranscript files script session = IsSession files (lines_of script) session
