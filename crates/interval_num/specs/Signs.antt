-- The signs that a decimal of one interval may have against a decimal of another: minus where it is less.
use Rattle.std.specs.Prelude.{ℤ, pos, negsuc, int_lt, int_le, ◌&&◌, IsTrue, if◌then◌else◌}
use Rattle.std.specs.declared.cmp.Ordering.{Ordering}
use Rattle.std.specs.declared.cmp.Ordering.TheVariants.{Less, Equal, Greater}
use Rattle.scaled_decimal.specs.Decimals.{Decimal, value_order}
use Rattle.interval_num.specs.declared.sign_set.SignSet.{SignSet}
use Rattle.interval_num.specs.Intervals.{Interval}
use Rattle.interval_num.specs.Alignment.{at_scale, greater_scale}

-- the signs between two intervals whose ends are at one scale
abbrev pub signs_at : Interval → Interval → SignSet
signs_at x y = record { minus = int_lt x.lo y.hi; zero = int_le x.lo y.hi && int_le y.lo x.hi; plus = int_lt y.lo x.hi }

-- the signs that a comparison of decimals of two intervals may have, once these are aligned
abbrev pub signs_of : Interval → Interval → SignSet
signs_of a b = signs_at (at_scale (greater_scale a b) a) (at_scale (greater_scale a b) b)

-- the least sign of a set, as a number
abbrev pub least_sign : SignSet → ℤ
least_sign s = if s.minus then negsuc 0 else if s.zero then pos 0 else pos 1

-- the greatest sign of a set, as a number
abbrev pub greatest_sign : SignSet → ℤ
greatest_sign s = if s.plus then pos 1 else if s.zero then pos 0 else negsuc 0

-- the set has the sign of this order
abbrev pub HasSignOf : SignSet → Ordering → Type 0
HasSignOf s Less = IsTrue s.minus
HasSignOf s Equal = IsTrue s.zero
HasSignOf s Greater = IsTrue s.plus

-- the sign of x against y is one of the set's
abbrev pub HasSign : SignSet → Decimal → Decimal → Type 0
HasSign s x y = HasSignOf s (value_order x y)
