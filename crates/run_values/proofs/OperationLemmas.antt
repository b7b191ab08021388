-- Numbers within the limit.
use Rattle.std.proofs.Common.{◌≡◌, ℤ, to_z, of_z, arith}
use Rattle.std.specs.Int.{w128}
use Rattle.std.proofs.lemmas.Int.{to_z-of_z, fits_signed_from_abs}
use Rattle.scaled_decimal.specs.Limits.{IsWithinLimit}

-- a number within the limit as 128 bits hold it
pub held_is : (n : ℤ) → IsWithinLimit n → to_z w128 (of_z w128 n) ≡ n
held_is n h = to_z-of_z w128 n (fits_signed_from_abs w128 n (omega arith))
