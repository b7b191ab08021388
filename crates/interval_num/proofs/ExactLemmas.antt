-- Sums, differences, the lesser and the greater, joins, opposites and magnitudes lie in their rows' intervals.
use Rattle.std.proofs.Common.{◌≡◌, ℕ, ◌-◌, ◌≤◌, max, min, ℤ, pos, negsuc, ◌+ℤ◌, ◌-ℤ◌, ◌*ℤ◌, ◌≤ℤ◌, unsigned_abs, int_le, Bool, true, false, ◌&&◌, if◌then◌else◌, Ok, refl, sym, ap, ap₂, ◌∙◌, subst, arith}
use Rattle.std.proofs.lemmas.Int.{ints, clamps, unsigned_abs-mul}
use Rattle.scaled_decimal.specs.laws.IntegerLemmas.{times_sub, times_neg}
use Rattle.scaled_decimal.specs.Decimals.{Decimal, numerator_of, scale_of, numerator_at, ten_to}
use Rattle.scaled_decimal.specs.Decimals.{greater_scale as greater_places}
use Rattle.scaled_decimal.specs.Limits.{IsWithinLimit}
use Rattle.interval_num.specs.Intervals.{Interval, Contains}
use Rattle.interval_num.specs.Alignment.{at_scale, greater_scale, has_zero}
use Rattle.interval_num.specs.Rows.{sum_of, sum_row, difference_of, difference_row, join_of, join_row, negated_row, magnitude_row}
use Rattle.interval_num.specs.Soundness.{SumIsSound, DifferenceIsSound, JoinIsSound, NegationIsSound, MagnitudeIsSound}
use Rattle.interval_num.proofs.NumberLemmas.{times_plus, times_one, kept_shorter, kept_between}
use Rattle.interval_num.proofs.AlignmentLemmas.{at_greater, kept_ok, ok_is, IsMade, aligned_ok, low_holds, high_holds, left_low, left_high, right_low, right_high, places_le, comparison_fits}

-- a numerator at a scale, lengthened, between two ends within the limit
kept_back : (z l h : ℤ) (k : ℕ) → l ≤ℤ (z *ℤ ten_to k) → (z *ℤ ten_to k) ≤ℤ h → IsWithinLimit l → IsWithinLimit h → IsWithinLimit z
kept_back z l h k p q f g =
    let small = kept_shorter z 0 k (omega arith) (kept_between l (z *ℤ ten_to k) h p q f g) in
    let one = times_one z in
    subst IsWithinLimit one small

module _ (a b : Interval) (x y : Decimal) (hx : Contains a x) (hy : Contains b y) where
  abbrev q : ℕ
  q = greater_scale a b

  abbrev m : ℕ
  m = greater_places x y

  sum_longer : (numerator_at m x +ℤ numerator_at m y) *ℤ ten_to (q - m) ≡ numerator_at q x +ℤ numerator_at q y
  sum_longer =
      let le = places_le a b x y hx hy in
      times_plus (numerator_at m x) (numerator_at m y) (ten_to (q - m)) ∙ ap₂ (λ u v. u +ℤ v) (at_greater x m q (omega arith) le) (at_greater y m q (omega arith) le)

  difference_longer : (numerator_at m x -ℤ numerator_at m y) *ℤ ten_to (q - m) ≡ numerator_at q x -ℤ numerator_at q y
  difference_longer =
      let le = places_le a b x y hx hy in
      times_sub (numerator_at m x) (numerator_at m y) (ten_to (q - m)) ∙ ap₂ (λ u v. u -ℤ v) (at_greater x m q (omega arith) le) (at_greater y m q (omega arith) le)

  sum_low : ((at_scale q a).lo +ℤ (at_scale q b).lo) ≤ℤ ((numerator_at m x +ℤ numerator_at m y) *ℤ ten_to (q - m))
  sum_low = let i = left_low a b x y hx hy in let j = right_low a b x y hx hy in rw sum_longer (omega (arith, ints))

  sum_high : ((numerator_at m x +ℤ numerator_at m y) *ℤ ten_to (q - m)) ≤ℤ ((at_scale q a).hi +ℤ (at_scale q b).hi)
  sum_high = let i = left_high a b x y hx hy in let j = right_high a b x y hx hy in rw sum_longer (omega (arith, ints))

  difference_low : ((at_scale q a).lo -ℤ (at_scale q b).hi) ≤ℤ ((numerator_at m x -ℤ numerator_at m y) *ℤ ten_to (q - m))
  difference_low = let i = left_low a b x y hx hy in let j = right_high a b x y hx hy in rw difference_longer (omega (arith, ints))

  difference_high : ((numerator_at m x -ℤ numerator_at m y) *ℤ ten_to (q - m)) ≤ℤ ((at_scale q a).hi -ℤ (at_scale q b).lo)
  difference_high = let i = left_high a b x y hx hy in let j = right_low a b x y hx hy in rw difference_longer (omega (arith, ints))

  least_le : max a.s_lo b.s_lo ≤ m
  least_le = omega (arith, hx.least_scale, hy.least_scale)

pub sum_sound : (a b r : Interval) → sum_row a b ≡ Ok r → SumIsSound a b r
sum_sound a b r e x y hx hy =
    let q = greater_scale a b in
    let m = greater_places x y in
    let made = aligned_ok sum_of a b r e in
    let ends = kept_ok _ r made.made in
    let fits = comparison_fits a b x y hx hy made.align in
    let low = sum_low a b x y hx hy in
    let high = sum_high a b x y hx hy in
    record {
      fits = record { left = fits.left; right = fits.right; result = kept_back (numerator_at m x +ℤ numerator_at m y) _ _ (q - m) low high ends.0.low ends.0.high };
      inside = λ z is. subst (λ s. Contains s z) ends.1 (subst (Contains _) (sym is) (record {
        least_scale = least_le a b x y hx hy;
        greatest_scale = places_le a b x y hx hy;
        low = low;
        high = high;
      }));
    }

pub difference_sound : (a b r : Interval) → difference_row a b ≡ Ok r → DifferenceIsSound a b r
difference_sound a b r e x y hx hy =
    let q = greater_scale a b in
    let m = greater_places x y in
    let made = aligned_ok difference_of a b r e in
    let ends = kept_ok _ r made.made in
    let fits = comparison_fits a b x y hx hy made.align in
    let low = difference_low a b x y hx hy in
    let high = difference_high a b x y hx hy in
    record {
      fits = record { left = fits.left; right = fits.right; result = kept_back (numerator_at m x -ℤ numerator_at m y) _ _ (q - m) low high ends.0.low ends.0.high };
      inside = λ z is. subst (λ s. Contains s z) ends.1 (subst (Contains _) (sym is) (record {
        least_scale = least_le a b x y hx hy;
        greatest_scale = places_le a b x y hx hy;
        low = low;
        high = high;
      }));
    }

pub join_sound : (a b r : Interval) → join_row a b ≡ Ok r → JoinIsSound a b r
join_sound a b r e = record {
  left = λ x hx. subst (λ s. Contains s x) (ok_is _ r made.made) (record {
    least_scale = omega (arith, hx.least_scale);
    greatest_scale = omega (arith, hx.greatest_scale);
    low = (let l = low_holds a x (greater_scale a b) hx (omega arith) in omega (arith, ints, clamps));
    high = (let l = high_holds a x (greater_scale a b) hx (omega arith) in omega (arith, ints, clamps));
  });
  right = λ y hy. subst (λ s. Contains s y) (ok_is _ r made.made) (record {
    least_scale = omega (arith, hy.least_scale);
    greatest_scale = omega (arith, hy.greatest_scale);
    low = (let l = low_holds b y (greater_scale a b) hy (omega arith) in omega (arith, ints, clamps));
    high = (let l = high_holds b y (greater_scale a b) hy (omega arith) in omega (arith, ints, clamps));
  });
} where
  made : IsMade join_of a b r
  made = aligned_ok join_of a b r e

pub negation_sound : (a : Interval) → NegationIsSound a (negated_row a)
negation_sound a x h =
    let turned = times_neg (numerator_of x) (ten_to (a.s_hi - scale_of x)) in
    record {
      least_scale = h.least_scale;
      greatest_scale = h.greatest_scale;
      low = (let l = h.high in rw turned (omega (arith, ints)));
      high = (let l = h.low in rw turned (omega (arith, ints)));
    }

-- a magnitude that a power multiplies
magnitude_longer : (n : ℤ) (k : ℕ) → pos (unsigned_abs n) *ℤ ten_to k ≡ pos (unsigned_abs (n *ℤ ten_to k))
magnitude_longer n k = ap pos (sym (unsigned_abs-mul n (ten_to k)))

least_magnitude : (l h z : ℤ) (t : Bool) → (int_le l (pos 0) && int_le (pos 0) h) ≡ t → l ≤ℤ z → z ≤ℤ h → (if t then pos 0 else pos (min (unsigned_abs l) (unsigned_abs h))) ≤ℤ pos (unsigned_abs z)
least_magnitude l h z true e low high = omega (arith, ints)
least_magnitude (pos l) h z false e low high = omega (arith, ints)
least_magnitude (negsuc l) (pos h) z false e low high = let f : int_le (pos 0) (pos h) ≡ false = e in absurd (omega (arith, ints))
least_magnitude (negsuc l) (negsuc h) z false e low high = omega (arith, ints)

pub magnitude_sound : (a : Interval) → MagnitudeIsSound a (magnitude_row a)
magnitude_sound a x h =
    let longer = magnitude_longer (numerator_of x) (a.s_hi - scale_of x) in
    let l = h.low in
    let u = h.high in
    record {
      least_scale = h.least_scale;
      greatest_scale = h.greatest_scale;
      low = rw longer (least_magnitude a.lo a.hi (numerator_at a.s_hi x) (has_zero a) refl l u);
      high = rw longer (omega (arith, ints));
    }
