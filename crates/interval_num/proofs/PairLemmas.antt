-- Between intervals of one greatest scale an allowed sign leaves something: some decimals of both have it.
use Rattle.std.proofs.Common.{◌≡◌, ℕ, ◌-◌, ℤ, ◌*ℤ◌, ◌≤ℤ◌, Bool, true, false, ◌&&◌, Some, Ordering, Less, Equal, Greater, refl, sym, ap, ap₂, ◌∙◌, subst, arith}
use Rattle.std.specs.Prelude.{int_lt, int_le}
use Rattle.std.specs.Bool.{OnTrue}
use Rattle.std.specs.Int.{int_max}
use Rattle.std.specs.Ordering.{int_cmp}
use Rattle.std.specs.Cmp.{int_cmp_is}
use Rattle.std.proofs.lemmas.Int.{ints, clamps}
use Rattle.scaled_decimal.specs.Decimals.{decimal, numerator_at, ten_to, value_order}
use Rattle.interval_num.specs.declared.sign_set.SignSet.{SignSet}
use Rattle.interval_num.specs.Intervals.{Interval, Contains, IsKeptInterval, IsWhole}
use Rattle.interval_num.specs.Signs.{HasSignOf, signs_at, signs_of}
use Rattle.interval_num.specs.Refinement.{refined}
use Rattle.interval_num.proofs.NumberLemmas.{times_one}
use Rattle.interval_num.proofs.AlignmentLemmas.{signs_same}
use Rattle.interval_num.proofs.OrderLemmas.{Ranks, order_at}
use Rattle.interval_num.proofs.RefinementLemmas.{both_true, compared, kept_part}

own_numerator : (n : ℤ) (s : ℕ) → numerator_at s (decimal n s) ≡ n
own_numerator n s =
    let none : s - s ≡ 0 = omega arith in
    ap (λ k. n *ℤ ten_to k) none ∙ times_one n

own_order : (m n : ℤ) (s : ℕ) (o : Ordering) → Ranks o m n → o ≡ value_order (decimal m s) (decimal n s)
own_order m n s o ranks =
    int_cmp_is m n o ranks
    ∙ sym (order_at (decimal m s) (decimal n s) s (omega arith) (omega arith) ∙ ap₂ int_cmp (own_numerator m s) (own_numerator n s))

contained : (a : Interval) (n : ℤ) (s : ℕ) → IsKeptInterval a → a.s_hi ≡ s → a.lo ≤ℤ n → n ≤ℤ a.hi → Contains a (decimal n s)
contained a n s kept e low high =
    let at : n ≡ numerator_at a.s_hi (decimal n s) = sym (ap (λ k. numerator_at k (decimal n s)) e ∙ own_numerator n s) in
    record {
      least_scale = omega (arith, e, kept.scales);
      greatest_scale = omega (arith, e);
      low = subst (λ z. a.lo ≤ℤ z) at low;
      high = subst (λ z. z ≤ℤ a.hi) at high;
    }

-- numbers between the ends of both, in an order
record HavePair (v e : Interval) (o : Ordering) : Type 0 where
  left : ℤ
  right : ℤ
  left_low : v.lo ≤ℤ left
  left_high : left ≤ℤ v.hi
  right_low : e.lo ≤ℤ right
  right_high : right ≤ℤ e.hi
  ranks : Ranks o left right

pair_of : (v e : Interval) (o : Ordering) → v.lo ≤ℤ v.hi → e.lo ≤ℤ e.hi → HasSignOf (signs_at v e) o → HavePair v e o
pair_of v e Less p q h = record {
  left = v.lo;
  right = e.hi;
  left_low = omega (arith, ints);
  left_high = p;
  right_low = q;
  right_high = omega (arith, ints);
  ranks = (let test : int_lt v.lo e.hi ≡ true = h in grind (arith, ints));
}
pair_of v e Equal p q h =
    let both = both_true (int_le v.lo e.hi) (int_le e.lo v.hi) h in
    let first : v.lo ≤ℤ e.hi = (let test : int_le v.lo e.hi ≡ true = both.0 in grind (arith, ints)) in
    let second : e.lo ≤ℤ v.hi = (let test : int_le e.lo v.hi ≡ true = both.1 in grind (arith, ints)) in
    record {
      left = int_max v.lo e.lo;
      right = int_max v.lo e.lo;
      left_low = omega (arith, ints, clamps);
      left_high = omega (arith, ints, clamps);
      right_low = omega (arith, ints, clamps);
      right_high = omega (arith, ints, clamps);
      ranks = refl;
    }
pair_of v e Greater p q h = record {
  left = v.hi;
  right = e.lo;
  left_low = p;
  left_high = omega (arith, ints);
  right_low = omega (arith, ints);
  right_high = q;
  ranks = (let test : int_lt e.lo v.hi ≡ true = h in grind (arith, ints));
}

module _ (v e : Interval) (same : v.s_hi ≡ e.s_hi) where
  -- a sign that is allowed, and that the intervals may have, leaves some of the first
  pub refined_some : (allowed : SignSet) (whole : Bool) (o : Ordering) → IsKeptInterval v → IsKeptInterval e → OnTrue whole (IsWhole v) → OnTrue whole (IsWhole e)
      → HasSignOf allowed o → HasSignOf (signs_of v e) o → (r : Interval) × (refined v e allowed whole ≡ Some r)
  refined_some allowed whole o kv ke wv we h between =
      let pair = pair_of v e o kv.order ke.order (subst (λ s. HasSignOf s o) (signs_same v e same) between) in
      let x = decimal pair.left v.s_hi in
      let y = decimal pair.right v.s_hi in
      let hx = contained v pair.left v.s_hi kv refl pair.left_low pair.left_high in
      let hy = contained e pair.right v.s_hi ke (sym same) pair.right_low pair.right_high in
      let sign = subst (HasSignOf allowed) (own_order pair.left pair.right v.s_hi o pair.ranks) h in
      let part = kept_part v e allowed whole x y hx hy (compared v e allowed x y hx hy sign) wv we in
      (part.0, part.1)

  -- the signs of the second against the first
  pub signs_back : signs_of e v ≡ record { minus = (signs_of v e).plus; zero = (signs_of v e).zero; plus = (signs_of v e).minus }
  signs_back =
      signs_same e v (sym same)
      ∙ ap (λ z. record { minus = int_lt e.lo v.hi; zero = z; plus = int_lt v.lo e.hi }) (either_way (int_le e.lo v.hi) (int_le v.lo e.hi))
      ∙ sym (ap (λ s. record { minus = s.plus; zero = s.zero; plus = s.minus }) (signs_same v e same))
    where
      either_way : (s t : Bool) → (s && t) ≡ (t && s)
      either_way true true = refl
      either_way true false = refl
      either_way false true = refl
      either_way false false = refl
