-- Shortened decimals and exact quotients as functions.
use Rattle.std.specs.Prelude.{◌≡◌, ◌↔◌, ℕ, zero, suc, ◌+◌, ◌-◌, ◌<◌, ◌≤◌, nat_lt, if◌then◌else◌, ℤ, pos, ◌*ℤ◌, int_div, int_rem}
use Rattle.std.specs.Ordering.{int_eq}
use Rattle.scaled_decimal.specs.Decimals.{Decimal, decimal, numerator_of, scale_of, ten_to}
use Rattle.scaled_decimal.specs.ExactQuotients.{IsPlainDivisor, IsExactQuotient}
use Rattle.scaled_decimal.specs.Shortening.{IsShortest}
use Rattle.scaled_decimal.specs.Limits.{most_places}

-- a value at a scale of `least` and `more` places, without the zeros that end it, of which the last `more` may go
abbrev pub without_zeros : (least more : ℕ) → ℤ → Decimal
without_zeros least zero n = decimal n least
without_zeros least (suc more) n =
    if int_eq (int_rem n (pos 10)) (pos 0) then without_zeros least more (int_div n (pos 10)) else decimal n (least + suc more)

-- the same value without the zeros that end it, at a scale that is no less than the least one (`IsShortened`); a decimal
-- of fewer places is kept
abbrev pub shortened : ℕ → Decimal → Decimal
shortened least a = if nat_lt (scale_of a) least then a else without_zeros least (scale_of a - least) (numerator_of a)

-- divide(d), d a plain divisor: the quotient, which `most_places` more places hold, at the least scale from the
-- receiver's on that holds it (`IsExactQuotient`)
abbrev pub exact_quotient : Decimal → ℤ → Decimal
exact_quotient a d =
    shortened (scale_of a) (decimal (numerator_of a *ℤ int_div (ten_to most_places) d) (scale_of a + most_places))

-- by a plain divisor exactly one decimal is the exact quotient, and the function gives it
abbrev pub EachPlainDivisorHasOneQuotient : Type 0
EachPlainDivisorHasOneQuotient =
    (a : Decimal) (d : ℤ) → IsPlainDivisor d → (q : Decimal) → IsExactQuotient a d q ↔ (q ≡ exact_quotient a d)

-- of the decimals of this value and so many places or more exactly one has the fewest, and the function gives it, where
-- the decimal has so many places; one that has fewer is kept
pub record EachValueIsShortenedInOneWay : Type 0 where
  pub shortest : (least : ℕ) (a : Decimal) → least ≤ scale_of a
      → (q : Decimal) → IsShortest a least q ↔ (q ≡ shortened least a)
  pub kept : (least : ℕ) (a : Decimal) → scale_of a < least → shortened least a ≡ a
