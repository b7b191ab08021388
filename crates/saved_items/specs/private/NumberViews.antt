-- How the digits of a number begin.
use Rattle.std.specs.Prelude.{◌≡◌, ◌≢◌, ◌<◌, ℕ, List, length, slice_index}

-- there is something, no plus stands first, and a zero only alone
pub record BeginsNumber (word : List ℕ) : Type 0 where
  pub some : 0 < length word
  pub no_plus : slice_index word 0 ≢ 43
  pub no_zero : slice_index word 0 ≡ 48 → length word ≡ 1
