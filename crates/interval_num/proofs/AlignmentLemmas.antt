-- Decimals at a scale that is no less than their own, and what an aligned operation takes for granted.
use Rattle.std.proofs.Common.{◌≡◌, ℕ, ◌-◌, ◌^◌, ◌≤◌, ◌*ℤ◌, ◌≤ℤ◌, Bool, true, false, ◌||◌, Ok, Err, refl, sym, ap, ap₂, ◌∙◌, subst, arith}
use Rattle.std.specs.Prelude.{IfOk}
use Rattle.scaled_decimal.specs.laws.IntegerLemmas.{le_times}
use Rattle.scaled_decimal.specs.Decimals.{Decimal, numerator_of, scale_of, numerator_at, ten_to}
use Rattle.scaled_decimal.specs.Decimals.{greater_scale as greater_places}
use Rattle.scaled_decimal.specs.WorkingNumbers.{ComparisonFits}
use Rattle.scaled_decimal.specs.Limits.{IsWithinLimit}
use Rattle.interval_num.specs.declared.cause.RangeCause.{RangeCause}
use Rattle.interval_num.specs.declared.cause.RangeCause.TheVariants.{Wide}
use Rattle.interval_num.specs.Intervals.{Interval, interval, Contains, HasKeptEnds}
use Rattle.interval_num.specs.Alignment.{unless, is_beyond, ends_beyond, within_limit, at_scale, greater_scale, aligned, Align}
use Rattle.interval_num.specs.Rows.{RowAnswer}
use Rattle.interval_num.specs.Signs.{signs_at, signs_of}
use Rattle.interval_num.proofs.NumberLemmas.{longer, times_one, within_in, within_out, kept_shorter, kept_between}

-- a numerator at one scale, at a greater one
pub at_greater : (x : Decimal) (p q : ℕ) → scale_of x ≤ p → p ≤ q → numerator_at p x *ℤ ten_to (q - p) ≡ numerator_at q x
at_greater x p q h l = longer (numerator_of x) (p - scale_of x) (q - p) (q - scale_of x) (omega arith)

-- the ends at a greater scale still hold what the interval contains
pub low_holds : (a : Interval) (x : Decimal) (q : ℕ) → Contains a x → a.s_hi ≤ q → (at_scale q a).lo ≤ℤ numerator_at q x
low_holds a x q h l = subst (λ z. (at_scale q a).lo ≤ℤ z) (at_greater x a.s_hi q h.greatest_scale l) (le_times a.lo (numerator_at a.s_hi x) (10 ^ (q - a.s_hi)) h.low)

pub high_holds : (a : Interval) (x : Decimal) (q : ℕ) → Contains a x → a.s_hi ≤ q → numerator_at q x ≤ℤ (at_scale q a).hi
high_holds a x q h l = subst (λ z. z ≤ℤ (at_scale q a).hi) (at_greater x a.s_hi q h.greatest_scale l) (le_times (numerator_at a.s_hi x) a.hi (10 ^ (q - a.s_hi)) h.high)

-- an answer that no cause refuses
pub unless_ok : (t : Bool) (cause : RangeCause) (answer : RowAnswer) (r : Interval) → unless t cause answer ≡ Ok r → (t ≡ false) × (answer ≡ Ok r)
unless_ok true cause answer r e = absurd (cc)
unless_ok false cause answer r e = (refl, e)

pub ok_is : (s r : Interval) → ◌≡◌ {A = RowAnswer} (Ok s) (Ok r) → s ≡ r
ok_is s r e = cc

either_false : (s t : Bool) → (s || t) ≡ false → (s ≡ false) × (t ≡ false)
either_false true t e = absurd (cc)
either_false false t e = (refl, e)

pub ends_kept : (a : Interval) → ends_beyond a ≡ false → HasKeptEnds a
ends_kept a e =
    let both = either_false (is_beyond a.lo) (is_beyond a.hi) e in
    record { low = within_out a.lo both.0; high = within_out a.hi both.1 }

pub kept_ok : (a r : Interval) → within_limit a ≡ Ok r → HasKeptEnds a × (a ≡ r)
kept_ok a r e = let passed = unless_ok (ends_beyond a) Wide (Ok a) r e in (ends_kept a passed.0, cc (passed.1))

-- what an aligned operation that answers has
pub record IsMade (make : Interval → Interval → RowAnswer) (a b r : Interval) : Type 0 where
  pub align : Align a b
  pub made : make (at_scale (greater_scale a b) a) (at_scale (greater_scale a b) b) ≡ Ok r

pub aligned_ok : (make : Interval → Interval → RowAnswer) (a b r : Interval) → aligned make a b ≡ Ok r → IsMade make a b r
aligned_ok make a b r e =
    let x = at_scale (greater_scale a b) a in
    let y = at_scale (greater_scale a b) b in
    let passed = unless_ok (ends_beyond x || ends_beyond y) Wide (make x y) r e in
    let both = either_false (ends_beyond x) (ends_beyond y) passed.0 in
    record { align = record { left = ends_kept x both.0; right = ends_kept y both.1 }; made = passed.1 }

-- a decimal of each of two aligned intervals
module _ (a b : Interval) (x y : Decimal) (hx : Contains a x) (hy : Contains b y) where
  abbrev q : ℕ
  q = greater_scale a b

  pub left_low : (at_scale q a).lo ≤ℤ numerator_at q x
  left_low = low_holds a x q hx (omega arith)

  pub left_high : numerator_at q x ≤ℤ (at_scale q a).hi
  left_high = high_holds a x q hx (omega arith)

  pub right_low : (at_scale q b).lo ≤ℤ numerator_at q y
  right_low = low_holds b y q hy (omega arith)

  pub right_high : numerator_at q y ≤ℤ (at_scale q b).hi
  right_high = high_holds b y q hy (omega arith)

  pub left_scale : scale_of x ≤ q
  left_scale = omega (arith, hx.greatest_scale)

  pub right_scale : scale_of y ≤ q
  right_scale = omega (arith, hy.greatest_scale)

  pub places_le : greater_places x y ≤ q
  places_le = let l = left_scale in let r = right_scale in omega arith

  pub left_kept : Align a b → IsWithinLimit (numerator_at q x)
  left_kept al = kept_between _ (numerator_at q x) _ left_low left_high al.left.low al.left.high

  pub right_kept : Align a b → IsWithinLimit (numerator_at q y)
  right_kept al = kept_between _ (numerator_at q y) _ right_low right_high al.right.low al.right.high

  -- the aligned numerators are within the limit
  pub comparison_fits : Align a b → ComparisonFits x y
  comparison_fits al =
      let le = places_le in
      record {
        left = kept_shorter (numerator_of x) (greater_places x y - scale_of x) (q - scale_of x) (omega arith) (left_kept al);
        right = kept_shorter (numerator_of y) (greater_places x y - scale_of y) (q - scale_of y) (omega arith) (right_kept al);
      }

-- what an answer promises, where it is there
pub if_ok : (o : RowAnswer) (P : Interval → Type 0) → ((r : Interval) → o ≡ Ok r → P r) → IfOk o P
if_ok (Ok r) P f = f r refl
if_ok (Err cause) P f = tt

pub unless_passes : (t : Bool) (cause : RangeCause) (answer : RowAnswer) → t ≡ false → unless t cause answer ≡ answer
unless_passes true cause answer e = absurd (cc)
unless_passes false cause answer e = refl

pub unless_refuses : (t : Bool) (cause : RangeCause) (answer : RowAnswer) → t ≡ true → unless t cause answer ≡ Err cause
unless_refuses true cause answer e = refl
unless_refuses false cause answer e = absurd (cc)

-- ---- intervals of one greatest scale

at_own : (s : ℕ) (a : Interval) → a.s_hi ≡ s → at_scale s a ≡ a
at_own s a e =
    let none : s - a.s_hi ≡ 0 = omega arith in
    let low : a.lo *ℤ ten_to (s - a.s_hi) ≡ a.lo = ap (λ k. a.lo *ℤ ten_to k) none ∙ times_one a.lo in
    let high : a.hi *ℤ ten_to (s - a.s_hi) ≡ a.hi = ap (λ k. a.hi *ℤ ten_to k) none ∙ times_one a.hi in
    ap₂ (λ l h. interval l h a.s_lo s) low high ∙ ap (λ m. interval a.lo a.hi a.s_lo m) (sym e)

ends_within : (a : Interval) → HasKeptEnds a → ends_beyond a ≡ false
ends_within a h = cc (within_in a.lo h.low, within_in a.hi h.high)

module _ (a b : Interval) (same : a.s_hi ≡ b.s_hi) where
  left_own : at_scale (greater_scale a b) a ≡ a
  left_own = at_own (greater_scale a b) a (omega arith)

  right_own : at_scale (greater_scale a b) b ≡ b
  right_own = at_own (greater_scale a b) b (omega arith)

  -- their numerators are at one scale already
  pub signs_same : signs_of a b ≡ signs_at a b
  signs_same = cc (left_own, right_own)

  pub aligned_same : (make : Interval → Interval → RowAnswer) → HasKeptEnds a → HasKeptEnds b → aligned make a b ≡ make a b
  aligned_same make left right = cc (left_own, right_own, ends_within a left, ends_within b right)
