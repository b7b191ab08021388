-- Rounded quotients and values as functions: by every mode there is exactly one rounding.
use Rattle.std.specs.Prelude.{◌≢◌, ℕ, zero, suc, ◌+◌, ◌^◌, ℤ, pos, negsuc, ◌*ℤ◌}
use Rattle.std.proofs.Common.{refl, arith}
use Rattle.std.proofs.lemmas.Int.{ints}
use Rattle.std.proofs.Math.Nat.{one-le-pow}
use Rattle.scaled_decimal.specs.declared.rounding.Mode.{Mode}
use Rattle.scaled_decimal.specs.Rounding.{Rounds}
use Rattle.scaled_decimal.specs.laws.RoundingLaws.{rounds_exactly_one}
use Rattle.scaled_decimal.specs.laws.IntegerLemmas.{times_zero}
use Rattle.scaled_decimal.specs.Decimals.{Decimal, decimal, numerator_of, scale_of, ten_to, IsRescaled, IsQuotient}

above_not_zero : (d : ℕ) → pos (suc d) ≢ pos 0
above_not_zero d e = absurd (omega (arith, ints))

below_not_zero : (d : ℕ) → negsuc d ≢ pos 0
below_not_zero d e = absurd (omega (arith, ints))

-- n / d rounded by the mode, d not 0
pub rounded : Mode → ℤ → ℤ → ℤ
rounded mode n (pos zero) = pos 0
rounded mode n (pos (suc d)) = (rounds_exactly_one mode n (pos (suc d)) (above_not_zero d)).some.0
rounded mode n (negsuc d) = (rounds_exactly_one mode n (negsuc d) (below_not_zero d)).some.0

pub rounded_is : (mode : Mode) (n d : ℤ) → d ≢ pos 0 → Rounds mode n d (rounded mode n d)
unfolding rounded
rounded_is mode n (pos zero) some = absurd (some refl)
rounded_is mode n (pos (suc d)) some = (rounds_exactly_one mode n (pos (suc d)) (above_not_zero d)).some.1
rounded_is mode n (negsuc d) some = (rounds_exactly_one mode n (negsuc d) (below_not_zero d)).some.1

-- divide: a / b rounded to scale s, b not 0
abbrev pub quotient : Mode → ℕ → Decimal → Decimal → Decimal
quotient mode s a b = decimal (rounded mode (numerator_of a *ℤ ten_to (s + scale_of b)) (numerator_of b *ℤ ten_to (scale_of a))) s

-- setScale: the value rounded to scale s
abbrev pub rescaled : Mode → ℕ → Decimal → Decimal
rescaled mode s a = decimal (rounded mode (numerator_of a *ℤ ten_to s) (ten_to (scale_of a))) s

ten_not_zero : (k : ℕ) → ten_to k ≢ pos 0
ten_not_zero k e = let some = one-le-pow k 10 (omega arith) in absurd (omega (arith, ints))

pub rescaled_is : (mode : Mode) (s : ℕ) (a : Decimal) → IsRescaled mode a s (rescaled mode s a)
rescaled_is mode s a = record { scale = refl; rounded = rounded_is mode (numerator_of a *ℤ ten_to s) (ten_to (scale_of a)) (ten_not_zero (scale_of a)) }

pub quotient_is : (mode : Mode) (s : ℕ) (a b : Decimal) → numerator_of b ≢ pos 0 → IsQuotient mode a b s (quotient mode s a b)
quotient_is mode s a b some = record { scale = refl; rounded = rounded_is mode (numerator_of a *ℤ ten_to (s + scale_of b)) (numerator_of b *ℤ ten_to (scale_of a)) (λ e. some (times_zero (numerator_of b) (10 ^ scale_of a) (one-le-pow (scale_of a) 10 (omega arith)) e)) }
