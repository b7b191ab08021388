-- Refusals, whatever their cause.
use Rattle.std.proofs.Common.{ℕ, ◌+◌, ◌≤◌, Result, Ok, Err}
use Rattle.std.specs.Prelude.{IfOk, OnErr}
use Rattle.std.specs.Result.{IsErr}
use Rattle.std.proofs.lemmas.Bool.{false≢true}
use Rattle.book_year.specs.Jobs.{Counts}

module _ {T E : Type 0} where
  pub err_done : (P : T → Type 0) (r : Result T E) → IsErr r → IfOk r P
  err_done P (Ok x) e = absurd (false≢true e)
  err_done P (Err x) e = tt

  pub err_on : (P : Type 0) (r : Result T E) → P → OnErr r P
  err_on P (Ok x) p = tt
  err_on P (Err x) p = p

  pub err_counts : (r : Result T E) → IsErr r → (before now total : ℕ) → before ≤ now → now ≤ before + total → Counts r before now total
  err_counts (Ok x) e before now total a b = absurd (false≢true e)
  err_counts (Err x) e before now total a b = (a, b)
