-- Rounded quotients and values lie in their rows' intervals, and their working numbers fit.
use Rattle.std.proofs.Common.{◌≡◌, ◌≢◌, ℕ, ◌+◌, ◌-◌, ◌^◌, ◌≤◌, ℤ, pos, ◌-ℤ◌, ◌*ℤ◌, ◌≤ℤ◌, unsigned_abs, nat_lt, ◌||◌, Bool, true, false, Ok, refl, sym, ap, ◌∙◌, subst, arith}
use Rattle.std.proofs.lemmas.Int.{ints, unsigned_abs-mul}
use Rattle.std.proofs.lemmas.Bool.Decides.{nat_tests}
use Rattle.std.proofs.Math.Nat.{mul-le-mul_right}
use Rattle.scaled_decimal.specs.declared.rounding.Mode.{Mode}
use Rattle.scaled_decimal.specs.Rounding.{Rounds}
use Rattle.scaled_decimal.specs.laws.RoundingLaws.{rounds_exactly_one, rounds_rising}
use Rattle.scaled_decimal.specs.laws.ScaledLemmas.{rounds_scaled}
use Rattle.scaled_decimal.specs.laws.IntegerLemmas.{le_times, times_zero}
use Rattle.scaled_decimal.specs.Decimals.{Decimal, decimal, numerator_of, scale_of, numerator_at, ten_to, RoundsValue, RoundsQuotient}
use Rattle.scaled_decimal.specs.RoundedDecimals.{rounded, quotient, rescaled}
use Rattle.scaled_decimal.specs.RoundedDecimals.{rounded_is}
use Rattle.scaled_decimal.specs.WorkingNumbers.{QuotientFits, RescaleFits}
use Rattle.scaled_decimal.specs.Limits.{IsWithinLimit, most_places}
use Rattle.interval_num.specs.declared.cause.RangeCause.TheVariants.{Wide, Divisor}
use Rattle.interval_num.specs.Intervals.{Interval, interval, Contains, IsKeptInterval}
use Rattle.interval_num.specs.Alignment.{unless, is_beyond, hull, corners, greatest_magnitude, has_zero}
use Rattle.interval_num.specs.Rows.{RowAnswer, most_power, quotient_is_wide, end_quotient, quotient_row, end_value, rescaled_row}
use Rattle.interval_num.specs.Soundness.{QuotientIsSound, RescalingIsSound}
use Rattle.interval_num.proofs.NumberLemmas.{longer, ten_add, ten_some, times_one, power_kept, within_out, kept_shorter}
use Rattle.interval_num.proofs.AlignmentLemmas.{unless_ok, ok_is}
use Rattle.interval_num.proofs.CornerLemmas.{most_holds, corners_low, corners_high}
use Rattle.interval_num.proofs.SteadyLemmas.{rounded_rises, rounded_small, quotient_steady, divisor_some}

pub ten_not_zero : (k : ℕ) → ten_to k ≢ pos 0
ten_not_zero k e = let some = ten_some k in omega (arith, ints)

-- a number that is no greater, lengthened as much
pub kept_less : (m z : ℤ) (k : ℕ) → unsigned_abs z ≤ unsigned_abs m → IsWithinLimit (m *ℤ ten_to k) → IsWithinLimit (z *ℤ ten_to k)
kept_less m z k le kept =
    let left = unsigned_abs-mul z (ten_to k) in
    let right = unsigned_abs-mul m (ten_to k) in
    let more = mul-le-mul_right (10 ^ k) le in
    omega (arith, kept)

-- what division asks of two decimals
pub record CanDivide (s : ℕ) (x y : Decimal) : Type 0 where
  pub some : numerator_of y ≢ pos 0
  pub power : s + scale_of y - scale_of x ≤ most_power
  pub places : scale_of x ≤ most_places
  pub scale : s ≤ most_places
  pub dividend : IsWithinLimit (numerator_of x *ℤ ten_to (s + scale_of y - scale_of x))
  pub divisor : IsWithinLimit (numerator_of y *ℤ ten_to (scale_of x - (s + scale_of y)))

moved : (i j : ℕ) → j - i ≤ most_power → i ≤ most_places → unsigned_abs (pos j -ℤ pos i) ≤ most_power
moved i j p q = omega (arith, ints)

-- a rounded quotient is within the limit
pub quotient_kept : (mode : Mode) (s : ℕ) (x y : Decimal) (q : ℤ) → CanDivide s x y → RoundsQuotient mode x y s q → IsWithinLimit q
quotient_kept mode s x y q can r =
    let small = rounded_small mode (numerator_of x) (numerator_of y) q (s + scale_of y) (scale_of x) can.some r in
    omega (arith, can.dividend, small)

pub quotient_fits : (mode : Mode) (s : ℕ) (x y : Decimal) → CanDivide s x y → QuotientFits mode x y s
quotient_fits mode s x y can = record {
  power = power_kept _ (moved (scale_of x) (s + scale_of y) can.power can.places);
  dividend = λ _. can.dividend;
  divisor = λ _. can.divisor;
  result = λ q r. quotient_kept mode s x y q can r;
  scale = can.scale;
}

-- what setScale asks of a decimal
pub rescale_fits : (mode : Mode) (s : ℕ) (x : Decimal) → s ≤ most_places → IsWithinLimit (numerator_of x *ℤ ten_to (s - scale_of x)) → RescaleFits mode x s
rescale_fits mode s x few kept = record {
  result = λ q r.
      let one : pos 1 *ℤ ten_to (scale_of x) ≡ ten_to (scale_of x) = omega (arith, ints) in
      let r' : Rounds mode (numerator_of x *ℤ ten_to s) (pos 1 *ℤ ten_to (scale_of x)) q = subst (λ d. Rounds mode (numerator_of x *ℤ ten_to s) d q) (sym one) r in
      let small = rounded_small mode (numerator_of x) (pos 1) q s (scale_of x) (λ e. (let f : pos 1 ≡ pos 0 = e in omega (arith, ints))) r' in
      omega (arith, kept, small);
  scale = few;
}

-- a quotient has one rounding
pub one_quotient : (mode : Mode) (s : ℕ) (x y : Decimal) (q : ℤ) → numerator_of y ≢ pos 0 → RoundsQuotient mode x y s q → q ≡ numerator_of (quotient mode s x y)
one_quotient mode s x y q some r =
    let n = numerator_of x *ℤ ten_to (s + scale_of y) in
    let d = numerator_of y *ℤ ten_to (scale_of x) in
    let apart = λ (e : d ≡ pos 0). some (times_zero (numerator_of y) (10 ^ scale_of x) (ten_some (scale_of x)) e) in
    (rounds_exactly_one mode n d apart).one q (rounded mode n d) r (rounded_is mode n d apart)

pub one_value : (mode : Mode) (s : ℕ) (x : Decimal) (q : ℤ) → RoundsValue mode x s q → q ≡ numerator_of (rescaled mode s x)
one_value mode s x q r =
    let n = numerator_of x *ℤ ten_to s in
    let d = ten_to (scale_of x) in
    (rounds_exactly_one mode n d (ten_not_zero (scale_of x))).one q (rounded mode n d) r (rounded_is mode n d (ten_not_zero (scale_of x)))

-- a quotient of contained decimals is that of their numerators there
quotient_longer : (mode : Mode) (s : ℕ) (a b : Interval) (x y : Decimal) (q : ℤ) → scale_of x ≤ a.s_hi → scale_of y ≤ b.s_hi → numerator_at b.s_hi y ≢ pos 0 → RoundsQuotient mode x y s q → q ≡ end_quotient mode s a b (numerator_at a.s_hi x) (numerator_at b.s_hi y)
quotient_longer mode s a b x y q lx ly some r =
    let i = scale_of x in
    let j = scale_of y in
    let k : ℕ = (a.s_hi - i) + (b.s_hi - j) in
    let long = rounds_scaled mode (numerator_of x *ℤ ten_to (s + j)) (numerator_of y *ℤ ten_to i) q (10 ^ k) (ten_some k) r in
    let top : (numerator_of x *ℤ ten_to (s + j)) *ℤ ten_to k ≡ numerator_at a.s_hi x *ℤ ten_to (s + b.s_hi) = longer (numerator_of x) (s + j) k (s + j + k) refl ∙ sym (longer (numerator_of x) (a.s_hi - i) (s + b.s_hi) (s + j + k) (omega arith)) in
    let bottom : (numerator_of y *ℤ ten_to i) *ℤ ten_to k ≡ numerator_at b.s_hi y *ℤ ten_to a.s_hi = longer (numerator_of y) i k (i + k) refl ∙ sym (longer (numerator_of y) (b.s_hi - j) a.s_hi (i + k) (omega arith)) in
    let half = subst (λ n. Rounds mode n ((numerator_of y *ℤ ten_to i) *ℤ ten_to k) q) top long in
    let whole = subst (λ d. Rounds mode (numerator_at a.s_hi x *ℤ ten_to (s + b.s_hi)) d q) bottom half in
    one_quotient mode s (decimal (numerator_at a.s_hi x) a.s_hi) (decimal (numerator_at b.s_hi y) b.s_hi) q some whole

value_longer : (mode : Mode) (s : ℕ) (a : Interval) (x : Decimal) (q : ℤ) → scale_of x ≤ a.s_hi → RoundsValue mode x s q → q ≡ end_value mode s a (numerator_at a.s_hi x)
value_longer mode s a x q lx r =
    let i = scale_of x in
    let k : ℕ = a.s_hi - i in
    let long = rounds_scaled mode (numerator_of x *ℤ ten_to s) (ten_to i) q (10 ^ k) (ten_some k) r in
    let top : (numerator_of x *ℤ ten_to s) *ℤ ten_to k ≡ numerator_at a.s_hi x *ℤ ten_to s = longer (numerator_of x) s k (s + k) refl ∙ sym (longer (numerator_of x) k s (s + k) (omega arith)) in
    let bottom : ten_to i *ℤ ten_to k ≡ ten_to a.s_hi = ten_add i k a.s_hi (omega arith) in
    let half = subst (λ n. Rounds mode n (ten_to i *ℤ ten_to k) q) top long in
    one_value mode s (decimal (numerator_at a.s_hi x) a.s_hi) q (subst (λ d. Rounds mode (numerator_at a.s_hi x *ℤ ten_to s) d q) bottom half)

-- the value of a numerator rises with it
value_rises : (mode : Mode) (s : ℕ) (a : Interval) (m n : ℤ) → m ≤ℤ n → end_value mode s a m ≤ℤ end_value mode s a n
value_rises mode s a m n h =
    let d = ten_to a.s_hi in
    let some = ten_not_zero a.s_hi in
    rounds_rising mode (m *ℤ ten_to s) d (n *ℤ ten_to s) d (rounded mode (m *ℤ ten_to s) d) (rounded mode (n *ℤ ten_to s) d) some some (le_times (m *ℤ ten_to s) (n *ℤ ten_to s) (10 ^ a.s_hi) (le_times m n (10 ^ s) h)) (rounded_is mode (m *ℤ ten_to s) d some) (rounded_is mode (n *ℤ ten_to s) d some)

not_more : (m n : ℕ) → nat_lt m n ≡ false → n ≤ m
not_more m n e = grind (arith, nat_tests)

either_false : (s t : Bool) → (s || t) ≡ false → (s ≡ false) × (t ≡ false)
either_false true t e = absurd (cc)
either_false false t e = (refl, e)

-- what the tests before a division say
pub record CanDivideIntervals (s : ℕ) (a b : Interval) : Type 0 where
  pub some : has_zero b ≡ false
  pub power : s + b.s_hi - a.s_lo ≤ most_power
  pub dividend : IsWithinLimit (greatest_magnitude a *ℤ ten_to (s + b.s_hi - a.s_hi))
  pub divisor : IsWithinLimit (greatest_magnitude b *ℤ ten_to (a.s_hi - (s + b.s_hi)))

pub tests_pass : (s : ℕ) (a b : Interval) → has_zero b ≡ false → quotient_is_wide s a b ≡ false → CanDivideIntervals s a b
tests_pass s a b e f =
    let first = either_false (nat_lt most_power (s + b.s_hi - a.s_lo)) _ f in
    let second = either_false (is_beyond (greatest_magnitude a *ℤ ten_to (s + b.s_hi - a.s_hi))) (is_beyond (greatest_magnitude b *ℤ ten_to (a.s_hi - (s + b.s_hi)))) first.1 in
    record {
      some = e;
      power = not_more most_power (s + b.s_hi - a.s_lo) first.0;
      dividend = within_out (greatest_magnitude a *ℤ ten_to (s + b.s_hi - a.s_hi)) second.0;
      divisor = within_out (greatest_magnitude b *ℤ ten_to (a.s_hi - (s + b.s_hi))) second.1;
    }

-- what a quotient's row says where it answers
pub record QuotientPasses (mode : Mode) (s : ℕ) (a b r : Interval) : Type 0 where
  pub tests : CanDivideIntervals s a b
  pub is : hull (corners (end_quotient mode s a b) a b) s s ≡ r

pub quotient_passes : (mode : Mode) (s : ℕ) (a b r : Interval) → quotient_row mode s a b ≡ Ok r → QuotientPasses mode s a b r
quotient_passes mode s a b r e =
    let answer : RowAnswer = Ok (hull (corners (end_quotient mode s a b) a b) s s) in
    let p = unless_ok (has_zero b) Divisor (unless (quotient_is_wide s a b) Wide answer) r e in
    let q = unless_ok (quotient_is_wide s a b) Wide answer r p.1 in
    record { tests = tests_pass s a b p.0 q.0; is = ok_is _ r q.1 }

-- contained decimals can be divided, and so can the ends
pub can_divide : (s : ℕ) (a b : Interval) (x y : Decimal) → s ≤ most_places → a.s_hi ≤ most_places → CanDivideIntervals s a b → Contains a x → Contains b y → CanDivide s x y
can_divide s a b x y few places pass hx hy =
    let i = scale_of x in
    let j = scale_of y in
    let u = numerator_at a.s_hi x in
    let v = numerator_at b.s_hi y in
    let left = kept_less (greatest_magnitude a) u (s + b.s_hi - a.s_hi) (most_holds a u hx.low hx.high) pass.dividend in
    let right = kept_less (greatest_magnitude b) v (a.s_hi - (s + b.s_hi)) (most_holds b v hy.low hy.high) pass.divisor in
    record {
      some = λ e. divisor_some b v hy.low hy.high pass.some (rw e (omega (arith, ints)));
      power = omega (arith, pass.power, hx.least_scale, hy.greatest_scale);
      places = omega (arith, hx.greatest_scale);
      scale = few;
      dividend = kept_shorter (numerator_of x) (s + j - i) ((a.s_hi - i) + (s + b.s_hi - a.s_hi)) (omega (arith, hx.greatest_scale, hy.greatest_scale)) (subst IsWithinLimit (longer (numerator_of x) (a.s_hi - i) (s + b.s_hi - a.s_hi) _ refl) left);
      divisor = kept_shorter (numerator_of y) (i - (s + j)) ((b.s_hi - j) + (a.s_hi - (s + b.s_hi))) (omega (arith, hx.greatest_scale, hy.greatest_scale)) (subst IsWithinLimit (longer (numerator_of y) (b.s_hi - j) (a.s_hi - (s + b.s_hi)) _ refl) right);
    }

pub quotient_sound : (mode : Mode) (s : ℕ) (a b r : Interval) → s ≤ most_places → a.s_hi ≤ most_places → quotient_row mode s a b ≡ Ok r → QuotientIsSound mode s a b r
quotient_sound mode s a b r few places e x y hx hy =
    let pass = quotient_passes mode s a b r e in
    let can = can_divide s a b x y few places pass.tests hx hy in
    let u = numerator_at a.s_hi x in
    let v = numerator_at b.s_hi y in
    let some = divisor_some b v hy.low hy.high pass.tests.some in
    let steady = quotient_steady (end_quotient mode s a b) (rounded_rises mode (10 ^ (s + b.s_hi)) (10 ^ a.s_hi) (ten_some a.s_hi)) a b u v hx.low hx.high hy.low hy.high pass.tests.some in
    record {
      not_zero = can.some;
      covers = record {
        fits = quotient_fits mode s x y can;
        inside = λ z is.
            let same = quotient_longer mode s a b x y (numerator_of z) hx.greatest_scale hy.greatest_scale some is.rounded in
            let gone : s - scale_of z ≡ 0 = omega (arith, is.scale) in
            let at : numerator_at s z ≡ end_quotient mode s a b u v = ap (λ k. numerator_of z *ℤ ten_to k) gone ∙ times_one (numerator_of z) ∙ same in
            subst (λ t. Contains t z) pass.is (record {
              least_scale = omega (arith, is.scale);
              greatest_scale = omega (arith, is.scale);
              low = rw at (corners_low (end_quotient mode s a b) a b u v steady);
              high = rw at (corners_high (end_quotient mode s a b) a b u v steady);
            });
      };
    }

pub record RescalingPasses (mode : Mode) (s : ℕ) (a r : Interval) : Type 0 where
  pub kept : IsWithinLimit (greatest_magnitude a *ℤ ten_to (s - a.s_hi))
  pub is : interval (end_value mode s a a.lo) (end_value mode s a a.hi) s s ≡ r

pub rescaling_passes : (mode : Mode) (s : ℕ) (a r : Interval) → rescaled_row mode s a ≡ Ok r → RescalingPasses mode s a r
rescaling_passes mode s a r e =
    let p = unless_ok (is_beyond (greatest_magnitude a *ℤ ten_to (s - a.s_hi))) Wide (Ok (interval (end_value mode s a a.lo) (end_value mode s a a.hi) s s)) r e in
    record { kept = within_out (greatest_magnitude a *ℤ ten_to (s - a.s_hi)) p.0; is = ok_is _ r p.1 }

-- contained decimals can be rescaled
pub can_rescale : (mode : Mode) (s : ℕ) (a : Interval) (x : Decimal) → s ≤ most_places → IsWithinLimit (greatest_magnitude a *ℤ ten_to (s - a.s_hi)) → Contains a x → RescaleFits mode x s
can_rescale mode s a x few kept hx =
    let i = scale_of x in
    let u = numerator_at a.s_hi x in
    let long = kept_less (greatest_magnitude a) u (s - a.s_hi) (most_holds a u hx.low hx.high) kept in
    rescale_fits mode s x few (kept_shorter (numerator_of x) (s - i) ((a.s_hi - i) + (s - a.s_hi)) (omega (arith, hx.greatest_scale)) (subst IsWithinLimit (longer (numerator_of x) (a.s_hi - i) (s - a.s_hi) _ refl) long))

pub rescaling_sound : (mode : Mode) (s : ℕ) (a r : Interval) → s ≤ most_places → rescaled_row mode s a ≡ Ok r → RescalingIsSound mode s a r
rescaling_sound mode s a r few e x hx =
    let pass = rescaling_passes mode s a r e in
    let u = numerator_at a.s_hi x in
    record {
      fits = can_rescale mode s a x few pass.kept hx;
      inside = λ z is.
          let same = value_longer mode s a x (numerator_of z) hx.greatest_scale is.rounded in
          let gone : s - scale_of z ≡ 0 = omega (arith, is.scale) in
          let at : numerator_at s z ≡ end_value mode s a u = ap (λ k. numerator_of z *ℤ ten_to k) gone ∙ times_one (numerator_of z) ∙ same in
          subst (λ t. Contains t z) pass.is (record {
            least_scale = omega (arith, is.scale);
            greatest_scale = omega (arith, is.scale);
            low = rw at (value_rises mode s a a.lo u hx.low);
            high = rw at (value_rises mode s a u a.hi hx.high);
          });
    }

-- the ends themselves, as decimals
pub low_end_inside : (a : Interval) → IsKeptInterval a → Contains a (decimal a.lo a.s_hi)
low_end_inside a h = record { least_scale = h.scales; greatest_scale = omega arith; low = rw (own a.lo) (omega (arith, ints)); high = rw (own a.lo) h.order }
  where
    own : (n : ℤ) → n *ℤ ten_to (a.s_hi - a.s_hi) ≡ n
    own n = let e : a.s_hi - a.s_hi ≡ 0 = omega arith in ap (λ k. n *ℤ ten_to k) e ∙ times_one n

pub high_end_inside : (a : Interval) → IsKeptInterval a → Contains a (decimal a.hi a.s_hi)
high_end_inside a h = record { least_scale = h.scales; greatest_scale = omega arith; low = rw (own a.hi) h.order; high = rw (own a.hi) (omega (arith, ints)) }
  where
    own : (n : ℤ) → n *ℤ ten_to (a.s_hi - a.s_hi) ≡ n
    own n = let e : a.s_hi - a.s_hi ≡ 0 = omega arith in ap (λ k. n *ℤ ten_to k) e ∙ times_one n

pub value_order : (mode : Mode) (s : ℕ) (a : Interval) (m n : ℤ) → m ≤ℤ n → end_value mode s a m ≤ℤ end_value mode s a n
value_order = value_rises
