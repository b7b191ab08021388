-- The numbers that each operation on kept decimals meets, and that they are within the limits.
use Rattle.std.specs.Prelude.{◌≡◌, ℕ, ◌+◌, ◌-◌, ◌<◌, ◌≤◌, ℤ, pos, ◌+ℤ◌, ◌-ℤ◌, ◌*ℤ◌, unsigned_abs}
use Rattle.scaled_decimal.specs.declared.rounding.Mode.{Mode}
use Rattle.scaled_decimal.specs.Limits.{IsWithinLimit, most_places}
use Rattle.scaled_decimal.specs.ExactQuotients.{Divides, IsExactQuotient}
use Rattle.scaled_decimal.specs.Decimals.{Decimal, numerator_of, scale_of, numerator_at, greater_scale, ten_to, RoundsValue, RoundsQuotient}

-- compareTo, min, max: both numerators at the greater scale
pub record ComparisonFits (a b : Decimal) : Type 0 where
  pub left : IsWithinLimit (numerator_at (greater_scale a b) a)
  pub right : IsWithinLimit (numerator_at (greater_scale a b) b)

-- add: both numerators at the greater scale, and their sum
pub record SumFits (a b : Decimal) : Type 0 where
  pub left : IsWithinLimit (numerator_at (greater_scale a b) a)
  pub right : IsWithinLimit (numerator_at (greater_scale a b) b)
  pub result : IsWithinLimit (numerator_at (greater_scale a b) a +ℤ numerator_at (greater_scale a b) b)

-- subtract: both numerators at the greater scale, and their difference
pub record DifferenceFits (a b : Decimal) : Type 0 where
  pub left : IsWithinLimit (numerator_at (greater_scale a b) a)
  pub right : IsWithinLimit (numerator_at (greater_scale a b) b)
  pub result : IsWithinLimit (numerator_at (greater_scale a b) a -ℤ numerator_at (greater_scale a b) b)

-- multiply: the product of the numerators, and the sum of the scales
pub record ProductFits (a b : Decimal) : Type 0 where
  pub result : IsWithinLimit (numerator_of a *ℤ numerator_of b)
  pub scale : scale_of a + scale_of b ≤ most_places

-- setScale: the rescaled numerator
pub record RescaleFits (mode : Mode) (a : Decimal) (s : ℕ) : Type 0 where
  pub result : (q : ℤ) → RoundsValue mode a s q → IsWithinLimit q
  pub scale : s ≤ most_places

-- how many places the dividend is lengthened by, or where this is below 0 the divisor
abbrev pub places_moved : Decimal → Decimal → ℕ → ℤ
places_moved a b s = pos (s + scale_of b) -ℤ pos (scale_of a)

-- divide: the power of ten for these places, the number that it lengthens, and the quotient
pub record QuotientFits (mode : Mode) (a b : Decimal) (s : ℕ) : Type 0 where
  pub power : IsWithinLimit (ten_to (unsigned_abs (places_moved a b s)))
  pub dividend : scale_of a ≤ s + scale_of b
      → IsWithinLimit (numerator_of a *ℤ ten_to (s + scale_of b - scale_of a))
  pub divisor : s + scale_of b < scale_of a
      → IsWithinLimit (numerator_of b *ℤ ten_to (scale_of a - (s + scale_of b)))
  pub result : (q : ℤ) → RoundsQuotient mode a b s q → IsWithinLimit q
  pub scale : s ≤ most_places

-- k is the least number for which d divides 10^k
pub record IsDivisorPlaces (d : ℤ) (k : ℕ) : Type 0 where
  pub divides : Divides d (ten_to k)
  pub least : (j : ℕ) → Divides d (ten_to j) → k ≤ j

-- the working numbers of divide(d): with that k, the numerator times 10^k / d, the scale and k together, and the result
pub record ExactQuotientFits (a : Decimal) (d : ℤ) : Type 0 where
  pub scaled : (k : ℕ) (c : ℤ) → IsDivisorPlaces d k → c *ℤ d ≡ ten_to k → IsWithinLimit (numerator_of a *ℤ c)
  pub scale : (k : ℕ) → IsDivisorPlaces d k → scale_of a + k ≤ most_places
  pub result : (q : Decimal) → IsExactQuotient a d q → IsWithinLimit (numerator_of q)
