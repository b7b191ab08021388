-- What holds of the definitions of answers.
use Rattle.std.specs.Prelude.{◌≡◌, ℕ, List}
use Rattle.plan_answers.specs.Answers.{Answer, CheckAnswers}

-- there is an answer, and no other
pub record HasOneAnswer (IsAnswer : Answer → Type 0) : Type 0 where
  pub some : (a : Answer) × IsAnswer a
  pub one : (a b : Answer) → IsAnswer a → IsAnswer b → a ≡ b

-- every two texts have one answer of `check`
abbrev pub CheckHasOneAnswer : Type 0
CheckHasOneAnswer = (plan limits : List ℕ) → HasOneAnswer (CheckAnswers plan limits)
