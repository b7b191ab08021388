-- What each operation makes of intervals: one row an operation, with its ends, its scales and its causes of refusal in
-- the order Divisor, Index, Scale, Wide. Source: docs/PROFILE.md, "Ranges of values".
use Rattle.std.specs.Prelude.{ℕ, Bool, ◌+◌, ◌-◌, max, min, suc, nat_lt, ◌||◌, ℤ, pos, ◌+ℤ◌, ◌-ℤ◌, ◌*ℤ◌, neg_ℤ, int_le, int_lt, unsigned_abs, List, [], ◌∷◌, map, fold, length, slice_range, Result, Ok, if◌then◌else◌, not}
use Rattle.std.specs.List.{list_any, list_all}
use Rattle.std.specs.Int.{int_min, int_max}
use Rattle.scaled_decimal.specs.declared.rounding.Mode.{Mode}
use Rattle.scaled_decimal.specs.Decimals.{Decimal, decimal, numerator_of, scale_of, numerator_at, ten_to}
use Rattle.scaled_decimal.specs.RoundedDecimals.{quotient, rescaled}
use Rattle.scaled_decimal.specs.WholeNumbers.{is_of_bits, whole_quotient}
use Rattle.scaled_decimal.specs.Limits.{most_places}
use Rattle.interval_num.specs.declared.cause.RangeCause.{RangeCause}
use Rattle.interval_num.specs.declared.cause.RangeCause.TheVariants.{Wide, Scale, Divisor, Index}
use Rattle.interval_num.specs.Intervals.{Interval, interval}
use Rattle.interval_num.specs.Alignment.{unless, is_beyond, within_limit, aligned, hull, corners, greatest_magnitude, has_zero, least_magnitude}
use Rattle.interval_num.specs.PlainDivisors.{divisor_places, cofactor}
use Rattle.interval_num.specs.Signs.{signs_at, least_sign, greatest_sign}

-- what an operation on one interval or on two answers
abbrev pub RowAnswer : Type 0
RowAnswer = Result Interval RangeCause

-- the sums of two aligned intervals
abbrev pub sum_of : Interval → Interval → RowAnswer
sum_of x y = within_limit (interval (x.lo +ℤ y.lo) (x.hi +ℤ y.hi) (max x.s_lo y.s_lo) x.s_hi)

-- the differences of two aligned intervals
abbrev pub difference_of : Interval → Interval → RowAnswer
difference_of x y = within_limit (interval (x.lo -ℤ y.hi) (x.hi -ℤ y.lo) (max x.s_lo y.s_lo) x.s_hi)

-- the lesser operands of two aligned intervals
abbrev pub min_of : Interval → Interval → RowAnswer
min_of x y = Ok (interval (int_min x.lo y.lo) (int_min x.hi y.hi) (min x.s_lo y.s_lo) x.s_hi)

-- the greater operands of two aligned intervals
abbrev pub max_of : Interval → Interval → RowAnswer
max_of x y = Ok (interval (int_max x.lo y.lo) (int_max x.hi y.hi) (min x.s_lo y.s_lo) x.s_hi)

-- the comparisons of two aligned intervals
abbrev pub comparison_of : Interval → Interval → RowAnswer
comparison_of x y = Ok (interval (least_sign (signs_at x y)) (greatest_sign (signs_at x y)) 0 0)

-- the least interval that contains both, of two aligned intervals
abbrev pub join_of : Interval → Interval → RowAnswer
join_of x y = Ok (interval (int_min x.lo y.lo) (int_max x.hi y.hi) (min x.s_lo y.s_lo) x.s_hi)

-- the interval of all sums; Wide where an aligned or a resulting end is beyond the limit
abbrev pub sum_row : Interval → Interval → RowAnswer
sum_row = aligned sum_of

-- the interval of all differences; Wide where an aligned or a resulting end is beyond the limit
abbrev pub difference_row : Interval → Interval → RowAnswer
difference_row = aligned difference_of

-- the interval of all lesser operands; Wide where an aligned end is beyond the limit
abbrev pub min_row : Interval → Interval → RowAnswer
min_row = aligned min_of

-- the interval of all greater operands; Wide where an aligned end is beyond the limit
abbrev pub max_row : Interval → Interval → RowAnswer
max_row = aligned max_of

-- the interval of all signs of comparisons; Wide where an aligned end is beyond the limit
abbrev pub comparison_row : Interval → Interval → RowAnswer
comparison_row = aligned comparison_of

-- the least interval that contains both, where two branches meet; Wide where an aligned end is beyond the limit
abbrev pub join_row : Interval → Interval → RowAnswer
join_row = aligned join_of

-- the interval of all products, from the four products of ends; Scale where the scales' sum is above the limit, Wide
-- where the product of the greatest magnitudes is beyond it
abbrev pub product_row : Interval → Interval → RowAnswer
product_row a b =
    unless (nat_lt most_places (a.s_hi + b.s_hi)) Scale (
    unless (is_beyond (greatest_magnitude a *ℤ greatest_magnitude b)) Wide (
    Ok (hull (corners (λ m n. m *ℤ n) a b) (a.s_lo + b.s_lo) (a.s_hi + b.s_hi))))

-- the interval of all opposites
abbrev pub negated_row : Interval → Interval
negated_row a = interval (neg_ℤ a.hi) (neg_ℤ a.lo) a.s_lo a.s_hi

-- the interval of all magnitudes
abbrev pub magnitude_row : Interval → Interval
magnitude_row a = interval (least_magnitude a) (greatest_magnitude a) a.s_lo a.s_hi

-- the greatest power of ten within the limit
abbrev pub most_power : ℕ
most_power = 37

-- whether a power of ten, a lengthened dividend or a lengthened divisor may be beyond the limit
abbrev pub quotient_is_wide : ℕ → Interval → Interval → Bool
quotient_is_wide s a b =
    nat_lt most_power (s + b.s_hi - a.s_lo)
    || (is_beyond (greatest_magnitude a *ℤ ten_to (s + b.s_hi - a.s_hi)) || is_beyond (greatest_magnitude b *ℤ ten_to (a.s_hi - (s + b.s_hi))))

-- the quotient of two ends, rounded to scale s
abbrev pub end_quotient : Mode → ℕ → Interval → Interval → ℤ → ℤ → ℤ
end_quotient mode s a b m n = numerator_of (quotient mode s (decimal m a.s_hi) (decimal n b.s_hi))

-- the interval of all quotients rounded to scale s, from the four quotients of ends; Divisor where b has zero in it,
-- Wide where a working number is beyond the limit
abbrev pub quotient_row : Mode → ℕ → Interval → Interval → RowAnswer
quotient_row mode s a b =
    unless (has_zero b) Divisor (
    unless (quotient_is_wide s a b) Wide (
    Ok (hull (corners (end_quotient mode s a b) a b) s s)))

-- the interval of all exact quotients by the plain divisor d; Scale where its places are too many, Wide where a
-- resulting end is beyond the limit
abbrev pub exact_quotient_row : ℤ → Interval → RowAnswer
exact_quotient_row d a =
    unless (nat_lt most_places (a.s_hi + divisor_places d)) Scale (
    within_limit (interval (a.lo *ℤ cofactor d) (a.hi *ℤ cofactor d) a.s_lo (a.s_hi + divisor_places d)))

-- an end, rounded to scale s
abbrev pub end_value : Mode → ℕ → Interval → ℤ → ℤ
end_value mode s a m = numerator_of (rescaled mode s (decimal m a.s_hi))

-- the interval of all values rounded to scale s; Wide where a working number is beyond the limit
abbrev pub rescaled_row : Mode → ℕ → Interval → RowAnswer
rescaled_row mode s a =
    unless (is_beyond (greatest_magnitude a *ℤ ten_to (s - a.s_hi))) Wide (
    Ok (interval (end_value mode s a a.lo) (end_value mode s a a.hi) s s))

-- the least scale of some decimals
abbrev pub least_scale : List Decimal → ℕ
least_scale [] = 0
least_scale (d ∷ ds) = fold min (scale_of d) (map scale_of ds)

-- the greatest scale of some decimals
abbrev pub greatest_scale : List Decimal → ℕ
greatest_scale ds = fold max 0 (map scale_of ds)

-- some decimals, aligned to a scale
abbrev pub decimals_at : ℕ → List Decimal → RowAnswer
decimals_at q ds =
    let numerators = map (numerator_at q) ds in
    unless (list_any is_beyond numerators) Wide (Ok (hull numerators (least_scale ds) q))

-- some decimals, aligned to their greatest scale
abbrev pub decimals_row : List Decimal → RowAnswer
decimals_row ds = decimals_at (greatest_scale ds) ds

-- the interval of the items of a table from the least index on to the greatest; Index where an index may be outside
-- the table, Wide where an aligned item is beyond the limit
abbrev pub item_row : List Decimal → Interval → RowAnswer
item_row items index =
    unless (int_lt index.lo (pos 0) || int_le (pos (length items)) index.hi) Index (
    decimals_row (slice_range items (unsigned_abs index.lo) (suc (unsigned_abs index.hi))))

-- the interval of whole numbers from the least to the greatest result at the ends; Wide where one has more than so
-- many bits
abbrev pub whole_hull : ℕ → List ℤ → RowAnswer
whole_hull bits ends = unless (not (list_all (is_of_bits bits) ends)) Wide (Ok (hull ends 0 0))

-- the interval of all results of +, - or * of whole numbers; Wide where an end has more bits
abbrev pub whole_row : ℕ → (ℤ → ℤ → ℤ) → Interval → Interval → RowAnswer
whole_row bits operation a b = whole_hull bits (corners operation a b)

-- the interval of all opposites of whole numbers; Wide where an end has more bits
abbrev pub whole_opposite_row : ℕ → Interval → RowAnswer
whole_opposite_row bits a = whole_hull bits (neg_ℤ a.hi ∷ (neg_ℤ a.lo ∷ []))

-- the interval of all quotients of whole numbers, cut towards zero; Divisor where b has zero in it, Wide where an end
-- has more bits
abbrev pub whole_quotient_row : ℕ → Interval → Interval → RowAnswer
whole_quotient_row bits a b = unless (has_zero b) Divisor (whole_hull bits (corners whole_quotient a b))

-- the least remainder of dividends from this on, by divisors whose magnitude less one is at greatest_magnitude m
abbrev pub least_remainder : (low m : ℤ) → ℤ
least_remainder low m = if int_le (pos 0) low then pos 0 else int_max low (neg_ℤ m)

-- the greatest remainder of dividends up to this, by divisors whose magnitude less one is at greatest_magnitude m
abbrev pub greatest_remainder : (high m : ℤ) → ℤ
greatest_remainder high m = if int_le high (pos 0) then pos 0 else int_min high m

-- the interval of all remainders of whole numbers, each with the dividend's sign; Divisor where b has zero in it
abbrev pub whole_remainder_row : Interval → Interval → RowAnswer
whole_remainder_row a b =
    let m = greatest_magnitude b -ℤ pos 1 in
    unless (has_zero b) Divisor (Ok (interval (least_remainder a.lo m) (greatest_remainder a.hi m) 0 0))
