-- What private contracts say of numbers that may be beyond the limit.
use Rattle.std.specs.Prelude.{◌≡◌, Option, Some, None, ℤ, ◌*ℤ◌}
use Rattle.scaled_decimal.specs.Limits.{IsWithinLimit}

-- the number, where it is within the limit, and none where it isn't
abbrev pub IsHeld : ℤ → Option ℤ → Type 0
IsHeld n (Some m) = (m ≡ n) × IsWithinLimit n
IsHeld n None = ¬ (IsWithinLimit n)

-- the same of a product
abbrev pub IsProductOf : ℤ → ℤ → Option ℤ → Type 0
IsProductOf m n o = IsHeld (m *ℤ n) o
