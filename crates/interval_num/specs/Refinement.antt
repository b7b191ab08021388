-- The part of an interval whose decimals may have an allowed sign against some decimal of another.
use Rattle.std.specs.Prelude.{ℤ, pos, ◌+ℤ◌, ◌-ℤ◌, int_le, Bool, ◌&&◌, not, Option, Some, None, if◌then◌else◌}
use Rattle.std.specs.Ordering.{int_eq}
use Rattle.std.specs.Int.{int_min, int_max}
use Rattle.scaled_decimal.specs.declared.rounding.Mode.TheVariants.{Floor, Ceiling}
use Rattle.scaled_decimal.specs.Decimals.{decimal, numerator_of}
use Rattle.scaled_decimal.specs.RoundedDecimals.{rescaled}
use Rattle.interval_num.specs.declared.sign_set.SignSet.{SignSet}
use Rattle.interval_num.specs.Intervals.{Interval, interval}

-- by how much values that must differ differ at least: by one where they are whole numbers
abbrev pub gap : SignSet → Bool → ℤ
gap allowed whole = if whole && not allowed.zero then pos 1 else pos 0

-- the low end of v where minus isn't allowed: e's, rounded up to v's scale
abbrev pub low_end : Interval → Interval → SignSet → Bool → ℤ
low_end v e allowed whole =
    if allowed.minus then v.lo
    else int_max v.lo (numerator_of (rescaled Ceiling v.s_hi (decimal e.lo e.s_hi)) +ℤ gap allowed whole)

-- the high end of v where plus isn't allowed: e's, rounded down to v's scale
abbrev pub high_end : Interval → Interval → SignSet → Bool → ℤ
high_end v e allowed whole =
    if allowed.plus then v.hi
    else int_min v.hi (numerator_of (rescaled Floor v.s_hi (decimal e.hi e.s_hi)) -ℤ gap allowed whole)

-- whether whole numbers may be less or greater than a single value, but not equal to it
abbrev pub is_apart : Interval → SignSet → Bool → Bool
is_apart e allowed whole = whole && (allowed.minus && (allowed.plus && (not allowed.zero && int_eq e.lo e.hi)))

-- an end, one more where it is this number
abbrev pub past : ℤ → ℤ → ℤ
past n low = if int_eq low n then low +ℤ pos 1 else low

-- the high end, one less where it is this number
abbrev pub short_of : ℤ → ℤ → ℤ
short_of n high = if int_eq high n then high -ℤ pos 1 else high

-- the interval without_end a number that is one of its ends
abbrev pub without_end : ℤ → Interval → Interval
without_end n v = interval (past n v.lo) (short_of n v.hi) v.s_lo v.s_hi

-- the interval, or none where its ends have crossed
abbrev pub unless_empty : Interval → Option Interval
unless_empty v = if int_le v.lo v.hi then Some v else None

-- what is left of v where a comparison with e has one of the allowed signs, or none: an end moves to e's end
-- where the sign towards it isn't allowed, and one past it where whole numbers must differ
abbrev pub refined : Interval → Interval → SignSet → Bool → Option Interval
refined v e allowed whole =
    let part = interval (low_end v e allowed whole) (high_end v e allowed whole) v.s_lo v.s_hi in
    unless_empty (if is_apart e allowed whole then without_end e.lo part else part)
