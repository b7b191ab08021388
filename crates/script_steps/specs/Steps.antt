-- What a line of a script answers, and what it makes of the book (docs/PROFILE.md, "Scripts").
use Rattle.std.specs.Prelude.{ℕ, List, IsSome, Result}
use Rattle.outside.specs.Told.{FileMap}
use Rattle.script_lang.specs.Commands.{Asked}
use Rattle.script_lang.specs.Lines.{IsLine, LineSays}
use Rattle.script_lang.specs.declared.fault.LineFault.{LineFault}
use Rattle.script_steps.specs.LineSteps.{Does, IsFileOf}
pub use Rattle.plan_answers.specs.Answers.{Answer}
pub use Rattle.script_steps.specs.Standings.{Standing, first_standing, silence}

-- the line names this file
pub record Names (line name : List ℕ) : Type 0 where
  pub what : Asked
  pub is_line : IsLine line what
  pub is_file : IsFileOf what name

-- each file that the line names is there
abbrev pub AreThere : FileMap → List ℕ → Type 0
AreThere files line = (name : List ℕ) → Names line name → IsSome (files name)

-- over these files, from what the lines before have left, the line leaves this and has this answer
pub record IsStep (files : FileMap) (before : Standing) (line : List ℕ) (after : Standing) (answer : Answer) : Type 0 where
  pub said : Result Asked LineFault
  pub says : LineSays line said
  pub does : Does files before said after answer
