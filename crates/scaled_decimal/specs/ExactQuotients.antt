-- The exact quotient by a plain divisor, as divide of java.math.BigDecimal gives it where it has an end. Source: the
-- documentation of java.math.BigDecimal (divide of one argument).
use Rattle.std.specs.Prelude.{◌≡◌, ◌≤◌, ℤ, pos, ◌*ℤ◌, ◌≤ℤ◌}
use Rattle.scaled_decimal.specs.Decimals.{Decimal, numerator_of, scale_of, ten_to}
use Rattle.scaled_decimal.specs.Limits.{most_places}

-- n is some whole number times d
abbrev pub Divides : ℤ → ℤ → Type 0
Divides d n = (c : ℤ) × (c *ℤ d ≡ n)

-- a whole number, at least 1, that divides 10^30
pub record IsPlainDivisor (d : ℤ) : Type 0 where
  pub positive : pos 1 ≤ℤ d
  pub divides : Divides d (ten_to most_places)

-- the value of q is that of a, divided by d
abbrev pub HoldsQuotient : Decimal → ℤ → Decimal → Type 0
HoldsQuotient a d q = (numerator_of q *ℤ d) *ℤ ten_to (scale_of a) ≡ numerator_of a *ℤ ten_to (scale_of q)

-- divide(d): the quotient at the least scale that holds it and is at least the receiver's, which is the preferred one
pub record IsExactQuotient (a : Decimal) (d : ℤ) (result : Decimal) : Type 0 where
  pub scale : scale_of a ≤ scale_of result
  pub exact : HoldsQuotient a d result
  pub least : (q : Decimal) → scale_of a ≤ scale_of q → HoldsQuotient a d q → scale_of result ≤ scale_of q
