-- What answering a line did whose answer isn't written.
use Rattle.std.specs.Prelude.{◌≡◌, ℕ, List, [], if◌then◌else◌, Option, Some, None, is_some}
use Rattle.script_steps.specs.declared.unwritten.Refusal.{Refusal}
use Rattle.script_steps.specs.Shown.{OutsideShown}
use Rattle.script_steps.specs.StepClauses.{IsAnswered}
use Rattle.script_steps.specs.Steps.{Standing}

-- the text of a refusal, and nothing where there is none
abbrev pub refusal_text : Option Refusal → List ℕ
refusal_text None = []
refusal_text (Some refusal) = refusal.text.items

-- the line was answered, its steps were counted, and what was handed out is its answer where that is a refusal
pub record IsAnsweredUnwritten
    (old new : OutsideShown) (from to : Standing) (line : List ℕ) (refusal : Option Refusal) : Type 0 where
  pub answered : IsAnswered old new from to line (is_some refusal)
  pub text : refusal_text refusal ≡ (if answered.answer.refused then answered.answer.text else [])
