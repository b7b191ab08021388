-- How many lines of a script were answered and refused, as a run counts them.
use Rattle.std.specs.Prelude.{◌≡◌, ℕ, ◌-◌, ◌^◌, nat_lt, Bool, List, length, min}
use Rattle.script_run.specs.declared.line_counts.LineCounts.{LineCounts}

-- a number stands still at the greatest of 64 bits
abbrev pub told_number : ℕ → ℕ
told_number n = min n (2 ^ 64 - 1)

-- so many lines were answered, and those with these numbers were refused
pub record AreCounted (answered : ℕ) (refused : List ℕ) (counts : LineCounts) : Type 0 where
  pub answered_is : counts.answered ≡ told_number answered
  pub refused_is : counts.refused ≡ told_number (length refused)

-- a line was refused
abbrev pub counts_one : LineCounts → Bool
counts_one counts = nat_lt 0 counts.refused
