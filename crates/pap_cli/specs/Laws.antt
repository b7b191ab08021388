-- What holds of the definitions of words and answers.
use Rattle.std.specs.Prelude.{◌≡◌, ℕ, List, ◌++◌, All}
use Rattle.outside.specs.Told.{FileMap}
use Rattle.payroll_records.specs.declared.values.NamedValue.{NamedValue}
use Rattle.payroll_records.specs.ValueWords.{AreValueWords}
use Rattle.pay_run.specs.Runs.{IsKeptValue}
use Rattle.pap_cli.specs.Words.{Form, HasForm}
use Rattle.plan_answers.specs.Answers.{Answer, CheckAnswers}
use Rattle.plan_answers.specs.Laws.{HasOneAnswer}
use Rattle.plan_answers.specs.Lines.{bound_line}
use Rattle.script_steps.specs.Promises.{NeverFailsWithin}
use Rattle.script_steps.specs.Steps.{AreThere}
use Rattle.script_run.specs.Transcripts.{lines_of}
use Rattle.pap_cli.specs.RunAnswers.{OnceAnswers}
use Rattle.pap_cli.specs.SaveAnswers.{SaveAnswers}

-- words have at most one form
abbrev pub HaveOneForm : Type 0
HaveOneForm = (words : List (List ℕ)) (a b : Form) → HasForm words a → HasForm words b → a ≡ b

-- every two texts have one answer of `once`, with each list of kept values
abbrev pub OnceHasOneAnswer : Type 0
OnceHasOneAnswer =
    (values : List NamedValue) → All IsKeptValue values
    → (plan limits : List ℕ) → HasOneAnswer (OnceAnswers values plan limits)

-- the values of words are kept
abbrev pub WordsGiveKeptValues : Type 0
WordsGiveKeptValues =
    (words : List (List ℕ)) (values : List NamedValue) → AreValueWords words values → All IsKeptValue values

-- where `check` prints `accepted steps N`, no run within the ranges fails, and none takes more than N steps
abbrev pub PrintedAcceptanceHolds : Type 0
PrintedAcceptanceHolds =
    (plan limits more : List ℕ) (steps : ℕ) (answer : Answer) → CheckAnswers plan limits answer
    → answer.text ≡ bound_line steps ++ more → NeverFailsWithin plan limits steps

-- a script whose lines name files that are there has one answer of `save`
abbrev pub ScriptsHaveOneSave : Type 0
ScriptsHaveOneSave =
    (files : FileMap) (script : List ℕ) → All (λ line. AreThere files line) (lines_of script)
    → HasOneAnswer (SaveAnswers files script)
