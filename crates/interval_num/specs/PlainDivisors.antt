-- Divisors of a power of ten.
use Rattle.std.specs.Prelude.{ℕ, zero, suc, ℤ, pos, int_div, int_rem, if◌then◌else◌}
use Rattle.std.specs.Ordering.{int_eq}
use Rattle.scaled_decimal.specs.Decimals.{ten_to}
use Rattle.scaled_decimal.specs.Limits.{most_places}

-- the first of k, k + 1 and so on for which d divides 10^k, or the last where it divides none of so many
abbrev pub first_power : ℤ → ℕ → ℕ → ℕ
first_power d k zero = k
first_power d k (suc tries) = if int_eq (int_rem (ten_to k) d) (pos 0) then k else first_power d (suc k) tries

-- the least k for which d divides 10^k, d being a plain divisor (`IsDivisorPlaces`)
unfoldable pub divisor_places : ℤ → ℕ
divisor_places d = first_power d 0 most_places

-- 10^k / d for that k
unfoldable pub cofactor : ℤ → ℤ
cofactor d = int_div (ten_to (divisor_places d)) d
