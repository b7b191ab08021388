-- What answering a line did to the script, and to what the outside shows.
use Rattle.std.specs.Prelude.{◌≡◌, ◌⊎◌, ℕ, ◌+◌, ◌≤◌, List, [], Bool, Option, Some}
use Rattle.std.specs.Option.{ForSome}
use Rattle.outside.specs.Told.{FileMap, Appends, AppendsFront, AppendsShort}
use Rattle.script_steps.specs.declared.stop.LineStop.{LineStop}
use Rattle.script_steps.specs.declared.stop.LineStop.TheVariants as stops
use Rattle.script_steps.specs.LineSteps.{IsNextFile}
use Rattle.script_steps.specs.Shown.{OutsideShown}
use Rattle.script_steps.specs.Standings.{Doing, StaysOrSteps}
use Rattle.script_steps.specs.Steps.{Standing, Answer, Names, IsStep}

-- the line's step, where the files tell what they hold
abbrev pub ToldStep : Option FileMap → Standing → List ℕ → Doing
ToldStep told from line to answer = ForSome told (λ files. IsStep files from line to answer)

-- the line's answer was written whole, its steps were counted, and its mark was told
pub record IsAnswered
    (old new : OutsideShown) (from to : Standing) (line : List ℕ) (refused : Bool) : Type 0 where
  pub answer : Answer
  pub appended : Appends old.written new.written answer.text
  pub counted : new.steps ≡ old.steps + answer.steps
  pub marked : refused ≡ answer.refused
  pub is : ToldStep old.files from line to answer

-- nothing was written, and nothing counted
pub record IsUnbegun (old new : OutsideShown) : Type 0 where
  pub nothing : Appends old.written new.written []
  pub uncounted : new.steps ≡ old.steps

-- the line has this step; a prefix of its answer was written, and at most its steps were counted
pub record IsPart (old new : OutsideShown) (from : Standing) (line : List ℕ) : Type 0 where
  pub to : Standing
  pub answer : Answer
  pub part : AppendsFront old.written new.written answer.text
  pub later : old.steps ≤ new.steps
  pub within : new.steps ≤ old.steps + answer.steps
  pub is : ToldStep old.files from line to answer

-- the sink failed: the line has this step, and the script is what it leaves; a prefix of its answer was written, and
-- not the whole, and its steps were counted
pub record IsUnfinished (old new : OutsideShown) (from to : Standing) (line : List ℕ) : Type 0 where
  pub answer : Answer
  pub part : AppendsShort old.written new.written answer.text
  pub counted : new.steps ≡ old.steps + answer.steps
  pub is : ToldStep old.files from line to answer

-- the files failed at a name of the line, where those that are read before it are there; the script is as it was
pub record IsStoppedByFile (old new : OutsideShown) (from to : Standing) (line : List ℕ) : Type 0 where
  pub unchanged : to ≡ from
  pub unbegun : IsUnbegun old new
  pub name : List ℕ
  pub names : Names line name
  pub in_order : ForSome old.files (λ files. IsNextFile files names.what name)
  pub failed_there : new.failed ≡ Some name

-- memory ran out: the script is as it was, or what the line leaves; nothing was written and counted, or so much
pub record IsOutOfMemory (old new : OutsideShown) (from to : Standing) (line : List ℕ) : Type 0 where
  pub left : StaysOrSteps (ToldStep old.files from line) from to
  pub done : IsUnbegun old new ⊎ IsPart old new from line

-- what is left of a line that was not answered to its end, by the cause
abbrev pub IsBroken :
    OutsideShown → OutsideShown → Standing → Standing → List ℕ → LineStop → Type 0
IsBroken old new from to line stops.File = IsStoppedByFile old new from to line
IsBroken old new from to line stops.Write = IsUnfinished old new from to line
IsBroken old new from to line stops.Memory = IsOutOfMemory old new from to line
