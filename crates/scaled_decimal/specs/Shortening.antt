-- How a decimal loses the zeros that end it.
use Rattle.std.specs.Prelude.{◌≡◌, ℕ, ◌-◌, ◌≤◌, pos, ◌*ℤ◌}
use Rattle.scaled_decimal.specs.Decimals.{Decimal, numerator_of, scale_of, ten_to}
use Rattle.scaled_decimal.specs.ExactQuotients.{Divides}

-- the same value without the zeros that end it, at a scale that is no less than the least one
pub record IsShortened (a : Decimal) (least : ℕ) (result : Decimal) : Type 0 where
  pub low : least ≤ scale_of result
  pub high : scale_of result ≤ scale_of a
  pub same : numerator_of a ≡ numerator_of result *ℤ ten_to (scale_of a - scale_of result)
  pub short : Divides (pos 10) (numerator_of result) → scale_of result ≡ least

-- the values are the same, whatever the scales
abbrev pub HasValueOf : Decimal → Decimal → Type 0
HasValueOf a q = numerator_of q *ℤ ten_to (scale_of a) ≡ numerator_of a *ℤ ten_to (scale_of q)

-- the same value at the least scale that holds it and is no less than this one
pub record IsShortest (a : Decimal) (least : ℕ) (result : Decimal) : Type 0 where
  pub scale : least ≤ scale_of result
  pub same : HasValueOf a result
  pub fewest : (q : Decimal) → least ≤ scale_of q → HasValueOf a q → scale_of result ≤ scale_of q
