-- What holds of the steps of lines.
use Rattle.std.specs.Prelude.{◌≡◌, ◌⊎◌, ◌<◌, ℕ, List, None, Some, length, IsTrue}
use Rattle.outside.specs.Told.{FileMap}
use Rattle.payroll_records.specs.declared.day.Day.{Day}
use Rattle.plan_answers.specs.Lines.{bound_line}
use Rattle.script_lang.specs.Commands as asked
use Rattle.script_lang.specs.Limits.{most_line}
use Rattle.script_lang.specs.Lines.{IsLine}
use Rattle.script_steps.specs.Promises.{NeverFailsWithin}
use Rattle.script_steps.specs.Steps.{Standing, Answer, Names, AreThere, IsStep}

-- a step of a line
pub record HasStep (files : FileMap) (from : Standing) (line : List ℕ) : Type 0 where
  pub to : Standing
  pub answer : Answer
  pub is : IsStep files from line to answer

-- a line whose files are there has a step
abbrev pub LinesHaveAStep : Type 0
LinesHaveAStep =
    (files : FileMap) (from : Standing) (line : List ℕ) → AreThere files line → HasStep files from line

-- no line has two steps, and a line that has a step has its files
abbrev pub LinesHaveOneStep : Type 0
LinesHaveOneStep =
    (files : FileMap) (from : Standing) (line : List ℕ) (to to' : Standing) (answer answer' : Answer)
    → IsStep files from line to answer → IsStep files from line to' answer'
    → AreThere files line × (to ≡ to') × (answer ≡ answer')

-- a file that the line names and that isn't there
pub record LacksAFile (files : FileMap) (line : List ℕ) : Type 0 where
  pub name : List ℕ
  pub names : Names line name
  pub lacks : files name ≡ None

-- the files of a line are there, or one is not
abbrev pub FilesAreTold : Type 0
FilesAreTold = (files : FileMap) (line : List ℕ) → AreThere files line ⊎ LacksAFile files line

-- lines that are too long have one step
abbrev pub LongLinesAreOne : Type 0
LongLinesAreOne =
    (files : FileMap) (from to : Standing) (line other : List ℕ) (answer : Answer)
    → most_line < length line → most_line < length other
    → IsStep files from line to answer → IsStep files from other to answer

-- lines that are too long name no file
abbrev pub LongLinesNameNoFile : Type 0
LongLinesNameNoFile = (line name : List ℕ) → most_line < length line → Names line name → ⊥

-- ---- refusals

-- a line that is refused changes nothing, neither the book nor what was filed nor the work of all edits; and it
-- counts no step
abbrev pub RefusedLinesChangeNothing : Type 0
RefusedLinesChangeNothing =
    (files : FileMap) (from to : Standing) (line : List ℕ) (answer : Answer)
    → IsStep files from line to answer → IsTrue answer.refused → (to ≡ from) × (answer.steps ≡ 0)

-- ---- a plan that is put

-- where a line `plan DAY PLAN LIMITS` is answered `accepted steps N`, no run of the plan of these two files fails
-- within its ranges, and none takes more than N steps
abbrev pub PutPlansHold : Type 0
PutPlansHold =
    (files : FileMap) (from to : Standing) (line : List ℕ) (answer : Answer) (day : Day) (plan limits : List ℕ)
    (plan_bytes limits_bytes : List ℕ) (steps : ℕ)
    → IsLine line (asked.plan day plan limits) → files plan ≡ Some plan_bytes → files limits ≡ Some limits_bytes
    → IsStep files from line to answer → answer.text ≡ bound_line steps
    → NeverFailsWithin plan_bytes limits_bytes steps
