-- The order of two decimals of aligned intervals: the lesser, the greater, the comparison and the signs.
use Rattle.std.proofs.Common.{◌≡◌, ℕ, ◌+◌, ◌-◌, ◌^◌, ◌<◌, ◌≤◌, min, ℤ, pos, negsuc, ◌*ℤ◌, ◌≤ℤ◌, ◌<ℤ◌, int_le, int_lt, Bool, true, false, if◌then◌else◌, Ok, Ordering, Less, Equal, Greater, refl, sym, ap, ap₂, ◌∙◌, subst, arith}
use Rattle.std.specs.Int.{int_min, int_max}
use Rattle.std.specs.Ordering.{int_cmp, MatchOrdering, is_gt, is_lt}
use Rattle.std.specs.Cmp.{int_ranks, int_cmp_is}
use Rattle.std.proofs.lemmas.Int.{ints, clamps}
use borrow.Author.Differences.{true_is_lt, true_is_le, lt_out, le_out}
use Rattle.scaled_decimal.specs.laws.IntegerLemmas.{lt_times}
use Rattle.scaled_decimal.specs.Decimals.{Decimal, numerator_of, scale_of, numerator_at, ten_to, value_order, order_number, comparison}
use Rattle.scaled_decimal.specs.Limits.{IsWithinLimit}
use Rattle.interval_num.specs.declared.sign_set.SignSet.{SignSet}
use Rattle.interval_num.specs.Intervals.{Interval, interval, Contains}
use Rattle.interval_num.specs.Alignment.{at_scale, greater_scale}
use Rattle.interval_num.specs.Signs.{signs_at, signs_of, least_sign, greatest_sign, HasSignOf}
use Rattle.interval_num.specs.Rows.{min_of, min_row, max_of, max_row, comparison_of, comparison_row}
use Rattle.interval_num.specs.Soundness.{MinIsSound, MaxIsSound, ComparisonIsSound, SignsAreSound}
use Rattle.interval_num.proofs.NumberLemmas.{longer, ten_some, times_one}
use Rattle.interval_num.proofs.AlignmentLemmas.{ok_is, aligned_ok, left_low, left_high, right_low, right_high, comparison_fits}

ranks_map : (r : Ordering) (P Q R P' Q' R' : Type 0) → (P → P') → (Q → Q') → (R → R') → MatchOrdering r P Q R → MatchOrdering r P' Q' R'
ranks_map Less P Q R P' Q' R' f g h m = f m
ranks_map Equal P Q R P' Q' R' f g h m = g m
ranks_map Greater P Q R P' Q' R' f g h m = h m

order_times : (x y : ℤ) (k : ℕ) → 0 < k → int_cmp x y ≡ int_cmp (x *ℤ pos k) (y *ℤ pos k)
order_times x y k some = int_cmp_is (x *ℤ pos k) (y *ℤ pos k) (int_cmp x y) (ranks_map (int_cmp x y) _ _ _ _ _ _ (lt_times x y k some) (λ e. ap (λ z. z *ℤ pos k) e) (lt_times y x k some) (int_ranks x y))

-- the order of the values is that of the numerators at any scale that both have
pub order_at : (x y : Decimal) (q : ℕ) → scale_of x ≤ q → scale_of y ≤ q → value_order x y ≡ int_cmp (numerator_at q x) (numerator_at q y)
order_at x y q lx ly =
    let n = numerator_of x in
    let m = numerator_of y in
    let i = scale_of x in
    let j = scale_of y in
    order_times (n *ℤ ten_to j) (m *ℤ ten_to i) (10 ^ q) (ten_some q)
    ∙ ap₂ int_cmp (longer n j q (j + q) refl) (longer m i q (i + q) refl)
    ∙ sym (
    order_times (numerator_at q x) (numerator_at q y) (10 ^ (i + j)) (ten_some (i + j))
    ∙ ap₂ int_cmp (longer n (q - i) (i + j) (j + q) (omega arith)) (longer m (q - j) (i + j) (i + q) (omega arith)))

-- what an order says of two numerators
abbrev pub Ranks : Ordering → ℤ → ℤ → Type 0
Ranks o u v = MatchOrdering o (u <ℤ v) (u ≡ v) (v <ℤ u)

pub ranked : (x y : Decimal) (q : ℕ) → scale_of x ≤ q → scale_of y ≤ q → Ranks (value_order x y) (numerator_at q x) (numerator_at q y)
ranked x y q lx ly = subst (λ o. Ranks o (numerator_at q x) (numerator_at q y)) (sym (order_at x y q lx ly)) (int_ranks (numerator_at q x) (numerator_at q y))

pub is_less : (u v : ℤ) → u <ℤ v → int_lt u v ≡ true
is_less u v lt = sym (true_is_lt u v (lt_out u v lt))

pub is_most : (u v : ℤ) → u ≤ℤ v → int_le u v ≡ true
is_most u v le = sym (true_is_le u v (le_out u v le))

-- the signs that the ends allow have that of two numbers between them
sign_of : (x y : Interval) (u v : ℤ) (o : Ordering) → x.lo ≤ℤ u → u ≤ℤ x.hi → y.lo ≤ℤ v → v ≤ℤ y.hi → Ranks o u v → HasSignOf (signs_at x y) o
sign_of x y u v Less xl xh yl yh lt = is_less x.lo y.hi (omega (arith, ints))
sign_of x y u v Equal xl xh yl yh e = let f = is_most x.lo y.hi (omega (arith, ints)) in let g = is_most y.lo x.hi (omega (arith, ints)) in rw (f, g) refl
sign_of x y u v Greater xl xh yl yh gt = is_less y.lo x.hi (omega (arith, ints))

pub signs_sound : (a b : Interval) → SignsAreSound a b (signs_of a b)
signs_sound a b x y hx hy =
    let q = greater_scale a b in
    sign_of (at_scale q a) (at_scale q b) (numerator_at q x) (numerator_at q y) (value_order x y) (left_low a b x y hx hy) (left_high a b x y hx hy) (right_low a b x y hx hy) (right_high a b x y hx hy) (ranked x y q (omega (arith, hx.greatest_scale)) (omega (arith, hy.greatest_scale)))

-- a set's numbers hold that of each of its signs
sign_low : (s : SignSet) (o : Ordering) → HasSignOf s o → least_sign s ≤ℤ order_number o
sign_low s Less h = rw h (omega (arith, ints))
sign_low s Equal h = by_minus s.minus
  where
    by_minus : (t : Bool) → (if t then negsuc 0 else if s.zero then pos 0 else pos 1) ≤ℤ pos 0
    by_minus true = omega (arith, ints)
    by_minus false = rw h (omega (arith, ints))
sign_low s Greater h = by_two s.minus s.zero
  where
    by_two : (t u : Bool) → (if t then negsuc 0 else if u then pos 0 else pos 1) ≤ℤ pos 1
    by_two true u = omega (arith, ints)
    by_two false true = omega (arith, ints)
    by_two false false = omega (arith, ints)

sign_high : (s : SignSet) (o : Ordering) → HasSignOf s o → order_number o ≤ℤ greatest_sign s
sign_high s Greater h = rw h (omega (arith, ints))
sign_high s Equal h = by_plus s.plus
  where
    by_plus : (t : Bool) → pos 0 ≤ℤ (if t then pos 1 else if s.zero then pos 0 else negsuc 0)
    by_plus true = omega (arith, ints)
    by_plus false = rw h (omega (arith, ints))
sign_high s Less h = by_two s.plus s.zero
  where
    by_two : (t u : Bool) → negsuc 0 ≤ℤ (if t then pos 1 else if u then pos 0 else negsuc 0)
    by_two true u = omega (arith, ints)
    by_two false true = omega (arith, ints)
    by_two false false = omega (arith, ints)

pub comparison_sound : (a b r : Interval) → comparison_row a b ≡ Ok r → ComparisonIsSound a b r
comparison_sound a b r e x y hx hy =
    let made = aligned_ok comparison_of a b r e in
    let sign = signs_sound a b x y hx hy in
    let one = times_one (comparison x y) in
    record {
      fits = comparison_fits a b x y hx hy made.align;
      inside = λ z is. subst (λ s. Contains s z) (ok_is _ r made.made) (subst (Contains _) (sym is) (record {
        least_scale = omega arith;
        greatest_scale = omega arith;
        low = rw one (sign_low (signs_of a b) (value_order x y) sign);
        high = rw one (sign_high (signs_of a b) (value_order x y) sign);
      }));
    }

module _ (a b : Interval) (x y : Decimal) (hx : Contains a x) (hy : Contains b y) where
  -- the lesser and the greater of the two lie in the intervals of min and max
  lesser_inside : (o : Ordering) → Ranks o (numerator_at (greater_scale a b) x) (numerator_at (greater_scale a b) y) → Contains (interval (int_min (at_scale (greater_scale a b) a).lo (at_scale (greater_scale a b) b).lo) (int_min (at_scale (greater_scale a b) a).hi (at_scale (greater_scale a b) b).hi) (min a.s_lo b.s_lo) (greater_scale a b)) (if is_gt o then y else x)
  lesser_inside Less lt = record {
    least_scale = omega (arith, hx.least_scale);
    greatest_scale = omega (arith, hx.greatest_scale);
    low = (let l = left_low a b x y hx hy in omega (arith, ints, clamps));
    high = (let h = left_high a b x y hx hy in let k = right_high a b x y hx hy in omega (arith, ints, clamps));
  }
  lesser_inside Equal same = record {
    least_scale = omega (arith, hx.least_scale);
    greatest_scale = omega (arith, hx.greatest_scale);
    low = (let l = left_low a b x y hx hy in omega (arith, ints, clamps));
    high = (let h = left_high a b x y hx hy in let k = right_high a b x y hx hy in omega (arith, ints, clamps));
  }
  lesser_inside Greater gt = record {
    least_scale = omega (arith, hy.least_scale);
    greatest_scale = omega (arith, hy.greatest_scale);
    low = (let l = right_low a b x y hx hy in omega (arith, ints, clamps));
    high = (let h = left_high a b x y hx hy in let k = right_high a b x y hx hy in omega (arith, ints, clamps));
  }

  greater_inside : (o : Ordering) → Ranks o (numerator_at (greater_scale a b) x) (numerator_at (greater_scale a b) y) → Contains (interval (int_max (at_scale (greater_scale a b) a).lo (at_scale (greater_scale a b) b).lo) (int_max (at_scale (greater_scale a b) a).hi (at_scale (greater_scale a b) b).hi) (min a.s_lo b.s_lo) (greater_scale a b)) (if is_lt o then y else x)
  greater_inside Less lt = record {
    least_scale = omega (arith, hy.least_scale);
    greatest_scale = omega (arith, hy.greatest_scale);
    low = (let l = left_low a b x y hx hy in let k = right_low a b x y hx hy in omega (arith, ints, clamps));
    high = (let h = right_high a b x y hx hy in omega (arith, ints, clamps));
  }
  greater_inside Equal same = record {
    least_scale = omega (arith, hx.least_scale);
    greatest_scale = omega (arith, hx.greatest_scale);
    low = (let l = left_low a b x y hx hy in let k = right_low a b x y hx hy in omega (arith, ints, clamps));
    high = (let h = left_high a b x y hx hy in omega (arith, ints, clamps));
  }
  greater_inside Greater gt = record {
    least_scale = omega (arith, hx.least_scale);
    greatest_scale = omega (arith, hx.greatest_scale);
    low = (let l = left_low a b x y hx hy in let k = right_low a b x y hx hy in omega (arith, ints, clamps));
    high = (let h = left_high a b x y hx hy in omega (arith, ints, clamps));
  }

pub min_sound : (a b r : Interval) → min_row a b ≡ Ok r → MinIsSound a b r
min_sound a b r e x y hx hy =
    let made = aligned_ok min_of a b r e in
    let ranks = ranked x y (greater_scale a b) (omega (arith, hx.greatest_scale)) (omega (arith, hy.greatest_scale)) in
    record {
      fits = comparison_fits a b x y hx hy made.align;
      inside = λ z is. subst (λ s. Contains s z) (ok_is _ r made.made) (subst (Contains _) (sym is) (lesser_inside a b x y hx hy (value_order x y) ranks));
    }

pub max_sound : (a b r : Interval) → max_row a b ≡ Ok r → MaxIsSound a b r
max_sound a b r e x y hx hy =
    let made = aligned_ok max_of a b r e in
    let ranks = ranked x y (greater_scale a b) (omega (arith, hx.greatest_scale)) (omega (arith, hy.greatest_scale)) in
    record {
      fits = comparison_fits a b x y hx hy made.align;
      inside = λ z is. subst (λ s. Contains s z) (ok_is _ r made.made) (subst (Contains _) (sym is) (greater_inside a b x y hx hy (value_order x y) ranks));
    }

-- two intervals that aren't empty have a sign
pub some_sign : (x y : Interval) → x.lo ≤ℤ x.hi → y.lo ≤ℤ y.hi → least_sign (signs_at x y) ≤ℤ greatest_sign (signs_at x y)
some_sign x y p q =
    let o = int_cmp x.lo y.lo in
    let sign = sign_of x y x.lo y.lo o (omega (arith, ints)) p (omega (arith, ints)) q (int_ranks x.lo y.lo) in
    let l = sign_low (signs_at x y) o sign in
    let h = sign_high (signs_at x y) o sign in
    omega (arith, ints)

pub sign_kept : (s : SignSet) → IsWithinLimit (least_sign s) × IsWithinLimit (greatest_sign s)
sign_kept s = (by_minus s.minus s.zero, by_plus s.plus s.zero)
  where
    by_minus : (t u : Bool) → IsWithinLimit (if t then negsuc 0 else if u then pos 0 else pos 1)
    by_minus true u = omega (arith, ints)
    by_minus false true = omega (arith, ints)
    by_minus false false = omega (arith, ints)

    by_plus : (t u : Bool) → IsWithinLimit (if t then pos 1 else if u then pos 0 else negsuc 0)
    by_plus true u = omega (arith, ints)
    by_plus false true = omega (arith, ints)
    by_plus false false = omega (arith, ints)
