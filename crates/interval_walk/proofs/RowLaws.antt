-- What a caller of a row knows where it answers: the operands are aligned, and a join of a range with itself is that range.
use Rattle.std.proofs.Common.{◌≡◌, ◌-◌, ◌≤◌, min, ℤ, ◌*ℤ◌, ◌≤ℤ◌, Bool, true, false, ◌||◌, Ok, refl, sym, ap, ◌∙◌, subst, arith}
use Rattle.std.specs.Int.{int_min, int_max}
use Rattle.std.proofs.lemmas.Int.{ints, clamps}
use Rattle.std.proofs.lemmas.Bool.Decides.{nat_tests}
use Rattle.scaled_decimal.specs.Decimals.{decimal, ten_to}
use Rattle.scaled_decimal.specs.Limits.{IsWithinLimit}
use Rattle.pap_tree.specs.declared.expression.Binary.{Binary}
use Rattle.pap_tree.specs.declared.expression.Binary.TheVariants as binaries
use Rattle.interval_num.specs.declared.cause.RangeCause.TheVariants.{Wide}
use Rattle.interval_num.specs.Intervals.{Interval, interval, Contains, IsKeptInterval, HasKeptEnds}
use Rattle.interval_num.specs.Alignment.{unless, is_beyond, ends_beyond, at_scale, greater_scale, Align}
use Rattle.interval_num.specs.Rows.{comparison_of, comparison_row, join_of, join_row}
use Rattle.interval_walk.specs.NodeRanges.{comparison_range}
use Rattle.interval_walk.proofs.RowShapes.{unless_ok}

either_false : (s t : Bool) → (s || t) ≡ false → (s ≡ false) × (t ≡ false)
either_false true t e = absurd (cc)
either_false false t e = (refl, e)

within_out : (n : ℤ) → is_beyond n ≡ false → IsWithinLimit n
within_out n e = grind (arith, nat_tests)

within_in : (n : ℤ) → IsWithinLimit n → is_beyond n ≡ false
within_in n h = grind (arith, nat_tests)

ends_kept : (a : Interval) → ends_beyond a ≡ false → HasKeptEnds a
ends_kept a e =
    let both = either_false (is_beyond a.lo) (is_beyond a.hi) e in
    record { low = within_out a.lo both.0; high = within_out a.hi both.1 }

-- two ranges that are compared are aligned
comparison_aligned : (a b r : Interval) → comparison_row a b ≡ Ok r → Align a b
comparison_aligned a b r e =
    let x = at_scale (greater_scale a b) a in
    let y = at_scale (greater_scale a b) b in
    let p = unless_ok (ends_beyond x || ends_beyond y) Wide (comparison_of x y) r e in
    let both = either_false (ends_beyond x) (ends_beyond y) p.0 in
    record { left = ends_kept x both.0; right = ends_kept y both.1 }

pub compared_aligned : (op : Binary) (a b r : Interval) → comparison_range op a b ≡ Ok r → Align a b
compared_aligned binaries.Less a b r e = comparison_aligned a b r e
compared_aligned binaries.LessEq a b r e = comparison_aligned a b r e
compared_aligned binaries.More a b r e = comparison_aligned a b r e
compared_aligned binaries.MoreEq a b r e = comparison_aligned a b r e
compared_aligned binaries.Same a b r e = comparison_aligned a b r e
compared_aligned binaries.Differs a b r e = comparison_aligned a b r e
compared_aligned binaries.Mul a b r e = absurd (cc)
compared_aligned binaries.Div a b r e = absurd (cc)
compared_aligned binaries.Rem a b r e = absurd (cc)
compared_aligned binaries.Plus a b r e = absurd (cc)
compared_aligned binaries.Sub a b r e = absurd (cc)
compared_aligned binaries.And a b r e = absurd (cc)
compared_aligned binaries.Or a b r e = absurd (cc)

pub comparison_row_aligned : (a b r : Interval) → comparison_row a b ≡ Ok r → Align a b
comparison_row_aligned a b r e = comparison_aligned a b r e

-- ---- a range joined with itself

ends_in : (a : Interval) → HasKeptEnds a → ends_beyond a ≡ false
ends_in a h = rw (within_in a.lo h.low, within_in a.hi h.high) refl

own_scale : (a : Interval) → at_scale (greater_scale a a) a ≡ a
own_scale a =
    let none : greater_scale a a - a.s_hi ≡ 0 = omega arith in
    let one = λ (n : ℤ). ap (λ k. n *ℤ ten_to k) none ∙ times_one n in
    let scale : greater_scale a a ≡ a.s_hi = omega arith in
    ap (λ l. interval l (a.hi *ℤ ten_to (greater_scale a a - a.s_hi)) a.s_lo (greater_scale a a)) (one a.lo)
    ∙ ap (λ h. interval a.lo h a.s_lo (greater_scale a a)) (one a.hi)
    ∙ ap (λ q. interval a.lo a.hi a.s_lo q) scale
  where
    times_one : (n : ℤ) → n *ℤ ten_to 0 ≡ n
    times_one n = omega (arith, ints)

join_own : (a : Interval) → interval (int_min a.lo a.lo) (int_max a.hi a.hi) (min a.s_lo a.s_lo) a.s_hi ≡ a
join_own a =
    let low : int_min a.lo a.lo ≡ a.lo = omega (arith, ints, clamps) in
    let high : int_max a.hi a.hi ≡ a.hi = omega (arith, ints, clamps) in
    let scale : min a.s_lo a.s_lo ≡ a.s_lo = omega arith in
    ap (λ l. interval l (int_max a.hi a.hi) (min a.s_lo a.s_lo) a.s_hi) low
    ∙ ap (λ h. interval a.lo h (min a.s_lo a.s_lo) a.s_hi) high
    ∙ ap (λ s. interval a.lo a.hi s a.s_hi) scale

pub join_same : (a : Interval) → IsKeptInterval a → join_row a a ≡ Ok a
join_same a h =
    let kept = ends_in a h.ends in
    let at = own_scale a in
    let both : (ends_beyond a || ends_beyond a) ≡ false = rw kept refl in
    subst (λ x. unless (ends_beyond x || ends_beyond x) Wide (join_of x x) ≡ Ok a) (sym at) (rw both (ap Ok (join_own a)))

-- ---- a range that isn't empty

pub low_inside : (a : Interval) → a.lo ≤ℤ a.hi → a.s_lo ≤ a.s_hi → Contains a (decimal a.lo a.s_hi)
low_inside a order scales =
    let none : a.s_hi - a.s_hi ≡ 0 = omega arith in
    let same : a.lo *ℤ ten_to (a.s_hi - a.s_hi) ≡ a.lo = ap (λ k. a.lo *ℤ ten_to k) none ∙ omega (arith, ints) in
    record { least_scale = scales; greatest_scale = omega arith; low = rw same (omega (arith, ints)); high = rw same order }
