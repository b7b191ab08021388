-- The results of operations on whole numbers lie in their rows' intervals, and the width holds them.
use Rattle.std.proofs.Common.{◌≡◌, ◌≢◌, ℕ, zero, suc, ◌-◌, ◌^◌, ◌≤◌, ℤ, pos, negsuc, ◌-ℤ◌, ◌*ℤ◌, ◌≤ℤ◌, neg_ℤ, unsigned_abs, int_le, int_lt, int_div, int_rem, Bool, true, false, not, ◌&&◌, if◌then◌else◌, List, [], ◌∷◌, fold, All, Ok, refl, sym, ap, ◌∙◌, subst, inl, inr, arith}
use Rattle.std.specs.List.{list_all}
use Rattle.std.specs.Int.{int_min, int_max}
use Rattle.std.proofs.lemmas.Int.{ints, clamps, quot-rem, rem_below}
use native.Mathlib.Nat.{mod-le}
use Rattle.std.proofs.lemmas.List.Elements.{All-nil, All-cons, All-head, All-tail}
use Rattle.scaled_decimal.specs.declared.rounding.Mode.TheVariants.{Down}
use Rattle.scaled_decimal.specs.Rounding.{Rounds}
use Rattle.scaled_decimal.specs.laws.RoundingLaws.{rounds_rising}
use Rattle.scaled_decimal.specs.laws.IntegerLemmas.{times_more, times_less, times_neg_right, some_abs}
use Rattle.scaled_decimal.specs.Decimals.{Decimal, ten_to}
use Rattle.scaled_decimal.specs.WholeNumbers.{IsOfBits, is_of_bits, whole_sum, whole_difference, whole_product, whole_quotient, whole_remainder, whole_opposite, whole_decimal}
use Rattle.interval_num.specs.declared.cause.RangeCause.TheVariants.{Wide, Divisor}
use Rattle.interval_num.specs.Intervals.{Interval, interval, Contains, IsWhole, IsWholeOfBits}
use Rattle.interval_num.specs.Alignment.{least, greatest, hull, corners, greatest_magnitude, has_zero}
use Rattle.interval_num.specs.Rows.{whole_hull, whole_row, whole_opposite_row, whole_quotient_row, least_remainder, greatest_remainder, whole_remainder_row}
use Rattle.interval_num.specs.Soundness.{WholeIsSound, WholeQuotientIsSound, WholeOppositeIsSound}
use Rattle.interval_num.proofs.NumberLemmas.{times_one}
use Rattle.interval_num.proofs.AlignmentLemmas.{unless_ok, ok_is}
use Rattle.interval_num.proofs.CornerLemmas.{IsSteady, corners_low, corners_high, times_steady, most_holds}
use Rattle.interval_num.proofs.SteadyLemmas.{Rises, one_sign, quotient_steady, divisor_some}

-- a whole number in an interval of whole numbers, and in one that is made
pub whole_low : (a : Interval) (n : ℤ) → IsWhole a → Contains a (whole_decimal n) → a.lo ≤ℤ n
whole_low a n w h = subst (λ t. a.lo ≤ℤ t) (ap (λ k. n *ℤ ten_to (k - 0)) w.greatest_scale ∙ times_one n) h.low

pub whole_high : (a : Interval) (n : ℤ) → IsWhole a → Contains a (whole_decimal n) → n ≤ℤ a.hi
whole_high a n w h = subst (λ t. t ≤ℤ a.hi) (ap (λ k. n *ℤ ten_to (k - 0)) w.greatest_scale ∙ times_one n) h.high

whole_inside : (lo hi n : ℤ) → lo ≤ℤ n → n ≤ℤ hi → Contains (interval lo hi 0 0) (whole_decimal n)
whole_inside lo hi n p q = record {
  least_scale = omega arith;
  greatest_scale = omega arith;
  low = rw (times_one n) p;
  high = rw (times_one n) q;
}

both_true : (s t : Bool) → (s && t) ≡ true → (s ≡ true) × (t ≡ true)
both_true true t e = (refl, e)
both_true false t e = absurd (cc)

pub of_bits_out : (bits : ℕ) (n : ℤ) → is_of_bits bits n ≡ true → IsOfBits bits n
of_bits_out bits n e =
    let both = both_true (int_le (neg_ℤ (pos (2 ^ (bits - 1)))) n) (int_lt n (pos (2 ^ (bits - 1)))) e in
    let l = both.0 in
    let h = both.1 in
    record { low = omega (arith, ints); high = omega (arith, ints) }

-- all results are of the width
pub all_of_bits : (bits : ℕ) (ns : List ℤ) → list_all (is_of_bits bits) ns ≡ true → All (IsOfBits bits) ns
all_of_bits bits [] e = All-nil (IsOfBits bits)
all_of_bits bits (n ∷ ns) e =
    let both = both_true (is_of_bits bits n) (list_all (is_of_bits bits) ns) e in
    All-cons (IsOfBits bits) n ns (of_bits_out bits n both.0) (all_of_bits bits ns both.1)

pub not_false : (t : Bool) → not t ≡ false → t ≡ true
not_false true e = refl
not_false false e = absurd (cc)

-- the least and the greatest of some numbers are of them
choose : (P : ℤ → Type 0) (m n : ℤ) (t : Bool) → P m → P n → P (if t then m else n)
choose P m n true p q = p
choose P m n false p q = q

pub fold_min_keeps : (P : ℤ → Type 0) (n : ℤ) (ns : List ℤ) → P n → All P ns → P (fold int_min n ns)
fold_min_keeps P n [] p all = p
fold_min_keeps P n (m ∷ ms) p all = fold_min_keeps P (int_min n m) ms (choose P m n (int_lt m n) (All-head P m ms all) p) (All-tail P m ms all)

pub fold_max_keeps : (P : ℤ → Type 0) (n : ℤ) (ns : List ℤ) → P n → All P ns → P (fold int_max n ns)
fold_max_keeps P n [] p all = p
fold_max_keeps P n (m ∷ ms) p all = fold_max_keeps P (int_max n m) ms (choose P n m (int_lt m n) p (All-head P m ms all)) (All-tail P m ms all)

of_bits_between : (bits : ℕ) (l z h : ℤ) → l ≤ℤ z → z ≤ℤ h → IsOfBits bits l → IsOfBits bits h → IsOfBits bits z
of_bits_between bits l z h p q f g = record { low = omega (arith, ints, f.low); high = omega (arith, ints, g.high) }

-- what a row's hull has where it answers
record HullPasses (bits : ℕ) (n : ℤ) (ns : List ℤ) (r : Interval) : Type 0 where
  low : IsOfBits bits (least (n ∷ ns))
  high : IsOfBits bits (greatest (n ∷ ns))
  is : hull (n ∷ ns) 0 0 ≡ r

hull_passes : (bits : ℕ) (n : ℤ) (ns : List ℤ) (r : Interval) → whole_hull bits (n ∷ ns) ≡ Ok r → HullPasses bits n ns r
hull_passes bits n ns r e =
    let p = unless_ok (not (list_all (is_of_bits bits) (n ∷ ns))) Wide (Ok (hull (n ∷ ns) 0 0)) r e in
    let all = all_of_bits bits (n ∷ ns) (not_false _ p.0) in
    record {
      low = fold_min_keeps (IsOfBits bits) n ns (All-head (IsOfBits bits) n ns all) (All-tail (IsOfBits bits) n ns all);
      high = fold_max_keeps (IsOfBits bits) n ns (All-head (IsOfBits bits) n ns all) (All-tail (IsOfBits bits) n ns all);
      is = ok_is _ r p.1;
    }

-- a row of steady results
module _ (bits : ℕ) (f : ℤ → ℤ → ℤ) (a b r : Interval) (wa : IsWhole a) (wb : IsWhole b) (e : whole_row bits f a b ≡ Ok r) (m n : ℤ) where
  pub steady_fits : IsSteady f a b m n → IsOfBits bits (f m n)
  steady_fits steady =
      let p = hull_passes bits (f a.lo b.lo) (f a.lo b.hi ∷ (f a.hi b.lo ∷ (f a.hi b.hi ∷ []))) r e in
      of_bits_between bits (least (corners f a b)) (f m n) (greatest (corners f a b)) (corners_low f a b m n steady) (corners_high f a b m n steady) p.low p.high

  pub steady_inside : IsSteady f a b m n → (z : Decimal) → z ≡ whole_decimal (f m n) → Contains r z
  steady_inside steady z is =
      let p = hull_passes bits (f a.lo b.lo) (f a.lo b.hi ∷ (f a.hi b.lo ∷ (f a.hi b.hi ∷ []))) r e in
      subst (λ s. Contains s z) p.is (subst (Contains (hull (corners f a b) 0 0)) (sym is) (whole_inside (least (corners f a b)) (greatest (corners f a b)) (f m n) (corners_low f a b m n steady) (corners_high f a b m n steady)))

sum_steady : (a b : Interval) (x y : ℤ) → a.lo ≤ℤ x → x ≤ℤ a.hi → b.lo ≤ℤ y → y ≤ℤ b.hi → IsSteady whole_sum a b x y
sum_steady a b x y p q r s = record {
  along = inl (omega (arith, ints), omega (arith, ints));
  low_across = inl (omega (arith, ints), omega (arith, ints));
  high_across = inl (omega (arith, ints), omega (arith, ints));
}

difference_steady : (a b : Interval) (x y : ℤ) → a.lo ≤ℤ x → x ≤ℤ a.hi → b.lo ≤ℤ y → y ≤ℤ b.hi → IsSteady whole_difference a b x y
difference_steady a b x y p q r s = record {
  along = inl (omega (arith, ints), omega (arith, ints));
  low_across = inr (omega (arith, ints), omega (arith, ints));
  high_across = inr (omega (arith, ints), omega (arith, ints));
}

pub whole_sum_sound : (bits : ℕ) (a b r : Interval) → IsWhole a → IsWhole b → whole_row bits whole_sum a b ≡ Ok r → WholeIsSound bits whole_sum a b r
whole_sum_sound bits a b r wa wb e m n hm hn =
    let steady = sum_steady a b m n (whole_low a m wa hm) (whole_high a m wa hm) (whole_low b n wb hn) (whole_high b n wb hn) in
    record { fits = steady_fits bits whole_sum a b r wa wb e m n steady; inside = steady_inside bits whole_sum a b r wa wb e m n steady }

pub whole_difference_sound : (bits : ℕ) (a b r : Interval) → IsWhole a → IsWhole b → whole_row bits whole_difference a b ≡ Ok r → WholeIsSound bits whole_difference a b r
whole_difference_sound bits a b r wa wb e m n hm hn =
    let steady = difference_steady a b m n (whole_low a m wa hm) (whole_high a m wa hm) (whole_low b n wb hn) (whole_high b n wb hn) in
    record { fits = steady_fits bits whole_difference a b r wa wb e m n steady; inside = steady_inside bits whole_difference a b r wa wb e m n steady }

pub whole_product_sound : (bits : ℕ) (a b r : Interval) → IsWhole a → IsWhole b → whole_row bits whole_product a b ≡ Ok r → WholeIsSound bits whole_product a b r
whole_product_sound bits a b r wa wb e m n hm hn =
    let steady = times_steady a b m n (whole_low a m wa hm) (whole_high a m wa hm) (whole_low b n wb hn) (whole_high b n wb hn) in
    record { fits = steady_fits bits whole_product a b r wa wb e m n steady; inside = steady_inside bits whole_product a b r wa wb e m n steady }

pub whole_opposite_sound : (bits : ℕ) (a r : Interval) → IsWhole a → whole_opposite_row bits a ≡ Ok r → WholeOppositeIsSound bits whole_opposite a r
whole_opposite_sound bits a r wa e m hm =
    let p = hull_passes bits (neg_ℤ a.hi) (neg_ℤ a.lo ∷ []) r e in
    let l = whole_low a m wa hm in
    let h = whole_high a m wa hm in
    let low : least (neg_ℤ a.hi ∷ (neg_ℤ a.lo ∷ [])) ≤ℤ neg_ℤ m = omega (arith, ints, clamps) in
    let high : neg_ℤ m ≤ℤ greatest (neg_ℤ a.hi ∷ (neg_ℤ a.lo ∷ [])) = omega (arith, ints, clamps) in
    record {
      fits = of_bits_between bits _ (neg_ℤ m) _ low high p.low p.high;
      inside = λ z is. subst (λ s. Contains s z) p.is (subst (Contains _) (sym is) (whole_inside _ _ (neg_ℤ m) low high));
    }

-- what is left is no greater than the dividend
abs_opposite : (k : ℕ) → unsigned_abs (neg_ℤ (pos k)) ≡ k
abs_opposite k = omega (arith, ints)

rem_bound : (n d : ℤ) → unsigned_abs (int_rem n d) ≤ unsigned_abs n
rem_bound (pos n) (pos d) = mod-le n d
rem_bound (pos n) (negsuc d) = mod-le n (suc d)
rem_bound (negsuc n) (pos d) = rw abs_opposite (mod-le (suc n) d)
rem_bound (negsuc n) (negsuc d) = rw abs_opposite (mod-le (suc n) (suc d))

-- what is left has the dividend's sign
pub rem_above : (n d : ℤ) → pos 0 ≤ℤ n → pos 0 ≤ℤ int_rem n d
rem_above (pos n) d h = omega (arith, ints)
rem_above (negsuc n) d h = absurd (omega (arith, ints))

pub rem_under : (n d : ℤ) → n ≤ℤ pos 0 → int_rem n d ≤ℤ pos 0
rem_under (pos zero) d h = let m = rem_bound (pos zero) d in omega (arith, ints)
rem_under (pos (suc n)) d h = absurd (omega (arith, ints))
rem_under (negsuc n) d h = omega (arith, ints)

-- Java's quotient is the rounding towards zero
down_is : (n d : ℤ) → d ≢ pos 0 → Rounds Down n d (int_div n d)
down_is n (pos zero) some = absurd (some refl)
down_is n (pos (suc d)) some =
    let q = int_div n (pos (suc d)) in
    let parts = quot-rem n (pos (suc d)) in
    let small = rem_below n (pos (suc d)) (omega arith) in
    let more = times_more q (pos (suc d)) in
    let less = times_less q (pos (suc d)) in
    record {
      above = λ h. (let s = rem_above n (pos (suc d)) h in record { low = omega (arith, ints); high = omega (arith, ints) });
      below = λ h. (let s = rem_under n (pos (suc d)) (omega (arith, ints)) in record { low = omega (arith, ints); high = omega (arith, ints) });
    }
down_is n (negsuc d) some =
    let q = int_div n (negsuc d) in
    let parts = quot-rem n (negsuc d) in
    let small = rem_below n (negsuc d) (omega arith) in
    let turned = times_neg_right q (negsuc d) in
    let more = times_more q (pos (suc d)) in
    let less = times_less q (pos (suc d)) in
    record {
      above = λ h. (let s = rem_under n (negsuc d) (omega (arith, ints)) in record { low = omega (arith, ints); high = omega (arith, ints) });
      below = λ h. (let s = rem_above n (negsuc d) (omega (arith, ints)) in record { low = omega (arith, ints); high = omega (arith, ints) });
    }

pub cut_rises : Rises whole_quotient
cut_rises m d n e sd se h = rounds_rising Down m d n e (int_div m d) (int_div n e) sd se h (down_is m d sd) (down_is n e se)

pub whole_quotient_sound : (bits : ℕ) (a b r : Interval) → IsWhole a → IsWhole b → whole_quotient_row bits a b ≡ Ok r → WholeQuotientIsSound bits whole_quotient a b r
whole_quotient_sound bits a b r wa wb e m n hm hn =
    let p = unless_ok (has_zero b) Divisor (whole_hull bits (corners whole_quotient a b)) r e in
    let lm = whole_low a m wa hm in
    let um = whole_high a m wa hm in
    let ln = whole_low b n wb hn in
    let un = whole_high b n wb hn in
    let steady = quotient_steady whole_quotient cut_rises a b m n lm um ln un p.0 in
    record {
      not_zero = divisor_some b n ln un p.0;
      covers = record { fits = steady_fits bits whole_quotient a b r wa wb p.1 m n steady; inside = steady_inside bits whole_quotient a b r wa wb p.1 m n steady };
    }

remainder_low : (b : Interval) (l m n : ℤ) (t : Bool) → int_le (pos 0) l ≡ t → n ≢ pos 0 → l ≤ℤ m → b.lo ≤ℤ n → n ≤ℤ b.hi → (if t then pos 0 else int_max l (neg_ℤ (greatest_magnitude b -ℤ pos 1))) ≤ℤ int_rem m n
remainder_low b l m n true e some p q r = rem_above m n (omega (arith, ints))
remainder_low b l m n false e some p q r = by_sign (int_le (pos 0) m) refl
  where
    by_sign : (s : Bool) → int_le (pos 0) m ≡ s → int_max l (neg_ℤ (greatest_magnitude b -ℤ pos 1)) ≤ℤ int_rem m n
    by_sign true f =
        let small = rem_below m n (some_abs n some) in
        let bound = most_holds b n q r in
        let s = rem_above m n (omega (arith, ints)) in
        omega (arith, ints, clamps)
    by_sign false f =
        let small = rem_below m n (some_abs n some) in
        let less = rem_bound m n in
        let bound = most_holds b n q r in
        let s = rem_under m n (omega (arith, ints)) in
        omega (arith, ints, clamps)

remainder_high : (b : Interval) (h m n : ℤ) (t : Bool) → int_le h (pos 0) ≡ t → n ≢ pos 0 → m ≤ℤ h → b.lo ≤ℤ n → n ≤ℤ b.hi → int_rem m n ≤ℤ (if t then pos 0 else int_min h (greatest_magnitude b -ℤ pos 1))
remainder_high b h m n true e some p q r = rem_under m n (omega (arith, ints))
remainder_high b h m n false e some p q r = by_sign (int_le m (pos 0)) refl
  where
    by_sign : (s : Bool) → int_le m (pos 0) ≡ s → int_rem m n ≤ℤ int_min h (greatest_magnitude b -ℤ pos 1)
    by_sign true f =
        let small = rem_below m n (some_abs n some) in
        let bound = most_holds b n q r in
        let s = rem_under m n (omega (arith, ints)) in
        omega (arith, ints, clamps)
    by_sign false f =
        let small = rem_below m n (some_abs n some) in
        let less = rem_bound m n in
        let bound = most_holds b n q r in
        let s = rem_above m n (omega (arith, ints)) in
        omega (arith, ints, clamps)

-- a remainder is of the width of its dividend
rem_of_bits : (bits : ℕ) (m n : ℤ) → IsOfBits bits m → IsOfBits bits (int_rem m n)
rem_of_bits bits m n h = by_sign (int_le (pos 0) m) refl
  where
    by_sign : (s : Bool) → int_le (pos 0) m ≡ s → IsOfBits bits (int_rem m n)
    by_sign true f =
        let less = rem_bound m n in
        let s = rem_above m n (omega (arith, ints)) in
        record { low = omega (arith, ints, h.low); high = omega (arith, ints, h.high) }
    by_sign false f =
        let less = rem_bound m n in
        let s = rem_under m n (omega (arith, ints)) in
        record { low = omega (arith, ints, h.low); high = omega (arith, ints, h.high) }

pub whole_remainder_sound : (bits : ℕ) (a b r : Interval) → IsWholeOfBits bits a → IsWhole b → whole_remainder_row a b ≡ Ok r → WholeQuotientIsSound bits whole_remainder a b r
whole_remainder_sound bits a b r wa wb e m n hm hn =
    let k = greatest_magnitude b -ℤ pos 1 in
    let lo = least_remainder a.lo k in
    let hi = greatest_remainder a.hi k in
    let p = unless_ok (has_zero b) Divisor (Ok (interval lo hi 0 0)) r e in
    let lm = whole_low a m wa.whole hm in
    let um = whole_high a m wa.whole hm in
    let ln = whole_low b n wb hn in
    let un = whole_high b n wb hn in
    let some = divisor_some b n ln un p.0 in
    record {
      not_zero = some;
      covers = record {
        fits = rem_of_bits bits m n (of_bits_between bits a.lo m a.hi lm um wa.low wa.high);
        inside = λ z is. subst (λ s. Contains s z) (ok_is _ r p.1) (subst (Contains (interval lo hi 0 0)) (sym is) (whole_inside lo hi (int_rem m n) (remainder_low b a.lo m n (int_le (pos 0) a.lo) refl some lm ln un) (remainder_high b a.hi m n (int_le a.hi (pos 0)) refl some um ln un)));
      };
    }

-- the remainders' ends are in order
pub remainder_order : (lo hi : ℤ) (b : Interval) → lo ≤ℤ hi → has_zero b ≡ false → b.lo ≤ℤ b.hi → least_remainder lo (greatest_magnitude b -ℤ pos 1) ≤ℤ greatest_remainder hi (greatest_magnitude b -ℤ pos 1)
remainder_order lo hi b h e o =
    let l = low_under (int_le (pos 0) lo) refl in
    let u = high_above (int_le hi (pos 0)) refl in
    omega (arith, ints)
  where
    m : ℤ
    m = greatest_magnitude b -ℤ pos 1

    m_above : pos 0 ≤ℤ m
    m_above = elim (one_sign b o e) [ inl some ↦ omega (arith, ints) | inr neg ↦ omega (arith, ints) ]

    low_under : (t : Bool) → int_le (pos 0) lo ≡ t → (if t then pos 0 else int_max lo (neg_ℤ (greatest_magnitude b -ℤ pos 1))) ≤ℤ pos 0
    low_under true f = omega (arith, ints)
    low_under false f = let p = m_above in omega (arith, ints, clamps)

    high_above : (t : Bool) → int_le hi (pos 0) ≡ t → pos 0 ≤ℤ (if t then pos 0 else int_min hi (greatest_magnitude b -ℤ pos 1))
    high_above true f = omega (arith, ints)
    high_above false f = let p = m_above in omega (arith, ints, clamps)
