-- The limits of kept decimals. Source: this project.
use Rattle.std.specs.Prelude.{ℕ, ◌^◌, ◌≤◌, ℤ, unsigned_abs}
use Rattle.scaled_decimal.specs.Decimals.{Decimal, numerator_of, scale_of}

-- the numerator of a kept decimal has at most this magnitude
abbrev pub limit : ℕ
limit = 10 ^ 37

-- a kept decimal has at most so many digits after its point
abbrev pub most_places : ℕ
most_places = 30

-- a numerator of at most this magnitude
abbrev pub IsWithinLimit : ℤ → Type 0
IsWithinLimit n = unsigned_abs n ≤ limit

-- a decimal that 128 bits keep
pub record IsKept (d : Decimal) : Type 0 where
  pub numerator : IsWithinLimit (numerator_of d)
  pub scale : scale_of d ≤ most_places
