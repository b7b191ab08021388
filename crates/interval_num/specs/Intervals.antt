-- Intervals of decimals, over unbounded whole numbers. An interval has two ends, numerators at its greatest
-- scale, and its least and greatest scale; it contains the decimals whose scale and value lie between.
-- Source: interval arithmetic by ends, over the decimals of java.math.BigDecimal.
use Rattle.std.specs.Prelude.{◌≡◌, ℕ, ◌≤◌, ℤ, ◌≤ℤ◌}
use Rattle.scaled_decimal.specs.Decimals.{Decimal, scale_of, numerator_at}
use Rattle.scaled_decimal.specs.Limits.{IsWithinLimit, most_places}
use Rattle.scaled_decimal.specs.WholeNumbers.{IsOfBits}

-- the two ends, as numerators at the greatest scale, and the least and the greatest scale
pub record Interval : Type 0 where
  pub lo : ℤ
  pub hi : ℤ
  pub s_lo : ℕ
  pub s_hi : ℕ

-- the interval of these ends and scales
abbrev pub interval : ℤ → ℤ → ℕ → ℕ → Interval
interval lo hi s_lo s_hi = record { lo = lo; hi = hi; s_lo = s_lo; s_hi = s_hi }

-- an interval contains the decimals of its scales whose values lie from its low to its high end
pub record Contains (a : Interval) (d : Decimal) : Type 0 where
  pub least_scale : a.s_lo ≤ scale_of d
  pub greatest_scale : scale_of d ≤ a.s_hi
  pub low : a.lo ≤ℤ numerator_at a.s_hi d
  pub high : numerator_at a.s_hi d ≤ℤ a.hi

-- both ends are within the limit
pub record HasKeptEnds (a : Interval) : Type 0 where
  pub low : IsWithinLimit a.lo
  pub high : IsWithinLimit a.hi

-- an interval that isn't empty, within the limits of kept decimals
pub record IsKeptInterval (a : Interval) : Type 0 where
  pub ends : HasKeptEnds a
  pub order : a.lo ≤ℤ a.hi
  pub scales : a.s_lo ≤ a.s_hi
  pub places : a.s_hi ≤ most_places

-- an interval of whole numbers
pub record IsWhole (a : Interval) : Type 0 where
  pub least_scale : a.s_lo ≡ 0
  pub greatest_scale : a.s_hi ≡ 0

-- an interval of whole numbers of so many bits
pub record IsWholeOfBits (bits : ℕ) (a : Interval) : Type 0 where
  pub whole : IsWhole a
  pub low : IsOfBits bits a.lo
  pub high : IsOfBits bits a.hi
