-- What is kept of a count.
use Rattle.std.specs.Prelude.{ℕ}

-- how many runs came somewhere, and the number of the last of them
pub record TallyState : Type 0 where
  pub runs : ℕ
  pub last : ℕ
