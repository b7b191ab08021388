-- Intervals brought to one scale, and the interval between the least and the greatest of some numbers.
use Rattle.std.specs.Prelude.{ℕ, ◌-◌, max, min, Bool, ◌||◌, nat_lt, int_le, ℤ, pos, ◌*ℤ◌, ◌&&◌, unsigned_abs, List, [], ◌∷◌, fold, Result, Ok, Err, if◌then◌else◌}
use Rattle.std.specs.Int.{int_min, int_max}
use Rattle.scaled_decimal.specs.Decimals.{ten_to}
use Rattle.scaled_decimal.specs.Limits.{limit}
use Rattle.interval_num.specs.declared.cause.RangeCause.{RangeCause}
use Rattle.interval_num.specs.declared.cause.RangeCause.TheVariants.{Wide}
use Rattle.interval_num.specs.Intervals.{Interval, interval, HasKeptEnds}

-- an answer, unless a cause refuses it
abbrev pub unless : Bool → RangeCause → Result Interval RangeCause → Result Interval RangeCause
unless refused cause answer = if refused then Err cause else answer

-- whether a numerator is beyond the limit of within_limit decimals
abbrev pub is_beyond : ℤ → Bool
is_beyond n = nat_lt limit (unsigned_abs n)

-- an end is beyond the limit of within_limit numbers
abbrev pub ends_beyond : Interval → Bool
ends_beyond a = is_beyond a.lo || is_beyond a.hi

-- the interval, or Wide where an end is beyond the limit
abbrev pub within_limit : Interval → Result Interval RangeCause
within_limit a = unless (ends_beyond a) Wide (Ok a)

-- the same interval with its ends at scale q, which is at least its greatest scale
abbrev pub at_scale : ℕ → Interval → Interval
at_scale q a = interval (a.lo *ℤ ten_to (q - a.s_hi)) (a.hi *ℤ ten_to (q - a.s_hi)) a.s_lo q

-- the scale to which two intervals are aligned: the greater of their greatest scales
abbrev pub greater_scale : Interval → Interval → ℕ
greater_scale a b = max a.s_hi b.s_hi

-- what is made of two intervals that are aligned: both with their ends at the greater of the two greatest scales
abbrev pub aligned : (Interval → Interval → Result Interval RangeCause) → Interval → Interval → Result Interval RangeCause
aligned make a b =
    let x = at_scale (greater_scale a b) a in
    let y = at_scale (greater_scale a b) b in
    unless (ends_beyond x || ends_beyond y) Wide (make x y)

-- the numbers of two aligned intervals are within the limit
pub record Align (a b : Interval) : Type 0 where
  pub left : HasKeptEnds (at_scale (greater_scale a b) a)
  pub right : HasKeptEnds (at_scale (greater_scale a b) b)

-- the least of some whole numbers
abbrev pub least : List ℤ → ℤ
least [] = pos 0
least (n ∷ ns) = fold int_min n ns

-- the greatest of some whole numbers
abbrev pub greatest : List ℤ → ℤ
greatest [] = pos 0
greatest (n ∷ ns) = fold int_max n ns

-- the interval from the least to the greatest of some numbers
abbrev pub hull : List ℤ → ℕ → ℕ → Interval
hull ns s_lo s_hi = interval (least ns) (greatest ns) s_lo s_hi

-- the four results at the ends
abbrev pub corners : (ℤ → ℤ → ℤ) → Interval → Interval → List ℤ
corners f a b = f a.lo b.lo ∷ (f a.lo b.hi ∷ (f a.hi b.lo ∷ (f a.hi b.hi ∷ [])))

-- the greatest magnitude of a numerator at the greatest scale
abbrev pub greatest_magnitude : Interval → ℤ
greatest_magnitude a = pos (max (unsigned_abs a.lo) (unsigned_abs a.hi))

-- zero lies between the ends
abbrev pub has_zero : Interval → Bool
has_zero a = int_le a.lo (pos 0) && int_le (pos 0) a.hi

-- the least magnitude of a number between the ends
abbrev pub least_magnitude : Interval → ℤ
least_magnitude a = if has_zero a then pos 0 else pos (min (unsigned_abs a.lo) (unsigned_abs a.hi))
