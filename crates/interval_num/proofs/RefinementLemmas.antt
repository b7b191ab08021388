-- Refinement keeps every decimal that stands in an allowed sign to one of the other interval.
use Rattle.std.proofs.Common.{◌≡◌, ◌≢◌, ℕ, ◌+◌, ◌-◌, ◌^◌, ℤ, pos, ◌+ℤ◌, ◌-ℤ◌, ◌*ℤ◌, ◌≤ℤ◌, ◌<ℤ◌, int_le, Bool, true, false, not, ◌&&◌, if◌then◌else◌, IsTrue, Option, Some, None, Ordering, Less, Equal, Greater, refl, sym, ap, ◌∙◌, subst, arith}
use Rattle.std.specs.Prelude.{IfSome, IfNone}
use Rattle.std.specs.Bool.{OnTrue}
use Rattle.std.specs.Int.{int_min, int_max}
use Rattle.std.specs.Ordering.{int_eq}
use Rattle.std.proofs.lemmas.Int.{ints, clamps, by_lt_z}
use Rattle.std.proofs.lemmas.Bool.Decides.{nat_tests}
use Rattle.scaled_decimal.specs.declared.rounding.Mode.TheVariants.{Floor, Ceiling}
use Rattle.scaled_decimal.specs.laws.IntegerLemmas.{le_times}
use Rattle.scaled_decimal.specs.Rounding.{IsFloor, IsCeiling}
use Rattle.scaled_decimal.specs.Decimals.{Decimal, decimal, numerator_of, numerator_at, ten_to, value_order}
use Rattle.scaled_decimal.specs.RoundedDecimals.{rescaled}
use Rattle.scaled_decimal.specs.RoundedDecimals.{rescaled_is}
use Rattle.interval_num.specs.declared.sign_set.SignSet.{SignSet}
use Rattle.interval_num.specs.Intervals.{Interval, interval, Contains, IsWhole}
use Rattle.interval_num.specs.Signs.{HasSignOf, HasSign}
use Rattle.interval_num.specs.Refinement.{refined, gap, low_end, high_end, is_apart, without_end, unless_empty}
use Rattle.interval_num.specs.Soundness.{RefinementIsSound, NoneIsAllowed}
use Rattle.interval_num.proofs.NumberLemmas.{times_one}
use Rattle.interval_num.proofs.AlignmentLemmas.{at_greater}
use Rattle.interval_num.proofs.OrderLemmas.{Ranks, ranked, is_most}

less_back : (m n : ℤ) (k : ℕ) → (m *ℤ pos k) <ℤ (n *ℤ pos k) → m <ℤ n
less_back m n k h = by_lt_z m n (λ l. l) (λ l. absurd (let t = le_times n m k l in omega (arith, ints)))

-- an end rounded up, or down, isn't beyond a numerator that the end isn't beyond
rounded_up : (n b z : ℤ) (k : ℕ) → IsCeiling n (pos k) b → n ≤ℤ (z *ℤ pos k) → b ≤ℤ z
rounded_up n b z k h l = let less = less_back (b -ℤ pos 1) z k (let low = h.low in omega (arith, ints)) in omega (arith, ints)

rounded_down : (n b z : ℤ) (k : ℕ) → IsFloor n (pos k) b → (z *ℤ pos k) ≤ℤ n → z ≤ℤ b
rounded_down n b z k h l = let less = less_back z (b +ℤ pos 1) k (let high = h.high in omega (arith, ints)) in omega (arith, ints)

-- the numerators of a decimal of v and of one of e, at their own scales and lengthened alike
pub record Compared (v e : Interval) (allowed : SignSet) (x y : Decimal) : Type 0 where
  order : Ordering
  has : HasSignOf allowed order
  ranks : Ranks order (numerator_at v.s_hi x *ℤ ten_to e.s_hi) (numerator_at e.s_hi y *ℤ ten_to v.s_hi)

pub compared : (v e : Interval) (allowed : SignSet) (x y : Decimal) → Contains v x → Contains e y → HasSign allowed x y → Compared v e allowed x y
compared v e allowed x y hx hy sign =
    let q = v.s_hi + e.s_hi in
    let ep : q - v.s_hi ≡ e.s_hi = omega arith in
    let eq : q - e.s_hi ≡ v.s_hi = omega arith in
    let left : numerator_at q x ≡ numerator_at v.s_hi x *ℤ ten_to e.s_hi = sym (at_greater x v.s_hi q hx.greatest_scale (omega arith)) ∙ ap (λ k. numerator_at v.s_hi x *ℤ ten_to k) ep in
    let right : numerator_at q y ≡ numerator_at e.s_hi y *ℤ ten_to v.s_hi = sym (at_greater y e.s_hi q hy.greatest_scale (omega arith)) ∙ ap (λ k. numerator_at e.s_hi y *ℤ ten_to k) eq in
    let ranks = ranked x y q (omega (arith, hx.greatest_scale)) (omega (arith, hy.greatest_scale)) in
    record {
      order = value_order x y;
      has = sign;
      ranks = subst (λ n. Ranks (value_order x y) (numerator_at v.s_hi x *ℤ ten_to e.s_hi) n) right (subst (λ m. Ranks (value_order x y) m (numerator_at q y)) left ranks);
    }

-- what orders say, where some aren't allowed
never : (s : Bool) → s ≡ false → IsTrue s → ⊥
never s e h = cc

not_less : (allowed : SignSet) (o : Ordering) (m n : ℤ) → HasSignOf allowed o → Ranks o m n → allowed.minus ≡ false → n ≤ℤ m
not_less allowed Less m n h r e = absurd (never allowed.minus e h)
not_less allowed Equal m n h r e = omega (arith, ints)
not_less allowed Greater m n h r e = omega (arith, ints)

not_greater : (allowed : SignSet) (o : Ordering) (m n : ℤ) → HasSignOf allowed o → Ranks o m n → allowed.plus ≡ false → m ≤ℤ n
not_greater allowed Less m n h r e = omega (arith, ints)
not_greater allowed Equal m n h r e = omega (arith, ints)
not_greater allowed Greater m n h r e = absurd (never allowed.plus e h)

not_equal : (allowed : SignSet) (o : Ordering) (m n : ℤ) → HasSignOf allowed o → Ranks o m n → allowed.zero ≡ false → m ≢ n
not_equal allowed Less m n h r e same = omega (arith, ints)
not_equal allowed Equal m n h r e same = never allowed.zero e h
not_equal allowed Greater m n h r e same = omega (arith, ints)

-- whole numbers
on_true : (whole : Bool) (P : Type 0) → OnTrue whole P → whole ≡ true → P
on_true true P h e = h
on_true false P h e = absurd (cc)

pub both_true : (s t : Bool) → (s && t) ≡ true → (s ≡ true) × (t ≡ true)
both_true true t e = (refl, e)
both_true false t e = absurd (cc)

not_true : (s : Bool) → not s ≡ true → s ≡ false
not_true true e = absurd (cc)
not_true false e = refl

whole_at : (a : Interval) (n : ℤ) → IsWhole a → n *ℤ ten_to a.s_hi ≡ n
whole_at a n w = ap (λ k. n *ℤ ten_to k) w.greatest_scale ∙ times_one n

module _ (v e : Interval) (allowed : SignSet) (whole : Bool) (x y : Decimal) (hx : Contains v x) (hy : Contains e y) (c : Compared v e allowed x y) (wv : OnTrue whole (IsWhole v)) (we : OnTrue whole (IsWhole e)) where
  abbrev m : ℤ
  m = numerator_at v.s_hi x

  abbrev n : ℤ
  n = numerator_at e.s_hi y

  -- whole numbers that differ
  whole_apart : whole ≡ true → allowed.zero ≡ false → m ≢ n
  whole_apart f z same =
      let left = whole_at e m (on_true whole (IsWhole e) we f) in
      let right = whole_at v n (on_true whole (IsWhole v) wv f) in
      not_equal allowed c.order _ _ c.has c.ranks z (left ∙ same ∙ sym right)

  gap_below : (t : Bool) → (whole && not allowed.zero) ≡ t → allowed.minus ≡ false → (e.lo *ℤ ten_to v.s_hi) ≤ℤ ((m -ℤ (if t then pos 1 else pos 0)) *ℤ ten_to e.s_hi)
  gap_below false f minus =
      let least = not_less allowed c.order _ _ c.has c.ranks minus in
      let low = le_times e.lo n (10 ^ v.s_hi) hy.low in
      let same : m -ℤ pos 0 ≡ m = omega (arith, ints) in
      rw same (omega (arith, ints))
  gap_below true f minus =
      let both = both_true whole (not allowed.zero) f in
      let apart = whole_apart both.0 (not_true allowed.zero both.1) in
      let least = not_less allowed c.order _ _ c.has c.ranks minus in
      let el = whole_at v e.lo (on_true whole (IsWhole v) wv both.0) in
      let en = whole_at v n (on_true whole (IsWhole v) wv both.0) in
      let em = whole_at e m (on_true whole (IsWhole e) we both.0) in
      let eg = whole_at e (m -ℤ pos 1) (on_true whole (IsWhole e) we both.0) in
      let low = hy.low in
      rw (el, eg) (omega (arith, ints))

  gap_above : (t : Bool) → (whole && not allowed.zero) ≡ t → allowed.plus ≡ false → ((m +ℤ (if t then pos 1 else pos 0)) *ℤ ten_to e.s_hi) ≤ℤ (e.hi *ℤ ten_to v.s_hi)
  gap_above false f plus =
      let most = not_greater allowed c.order _ _ c.has c.ranks plus in
      let high = le_times n e.hi (10 ^ v.s_hi) hy.high in
      let same : m +ℤ pos 0 ≡ m = omega (arith, ints) in
      rw same (omega (arith, ints))
  gap_above true f plus =
      let both = both_true whole (not allowed.zero) f in
      let apart = whole_apart both.0 (not_true allowed.zero both.1) in
      let most = not_greater allowed c.order _ _ c.has c.ranks plus in
      let eh = whole_at v e.hi (on_true whole (IsWhole v) wv both.0) in
      let en = whole_at v n (on_true whole (IsWhole v) wv both.0) in
      let em = whole_at e m (on_true whole (IsWhole e) we both.0) in
      let eg = whole_at e (m +ℤ pos 1) (on_true whole (IsWhole e) we both.0) in
      let high = hy.high in
      rw (eh, eg) (omega (arith, ints))

  low_holds : (t : Bool) → allowed.minus ≡ t → (if t then v.lo else int_max v.lo (numerator_of (rescaled Ceiling v.s_hi (decimal e.lo e.s_hi)) +ℤ gap allowed whole)) ≤ℤ m
  low_holds true f = hx.low
  low_holds false f =
      let b = numerator_of (rescaled Ceiling v.s_hi (decimal e.lo e.s_hi)) in
      let up : b ≤ℤ (m -ℤ gap allowed whole) = rounded_up (e.lo *ℤ ten_to v.s_hi) b (m -ℤ gap allowed whole) (10 ^ e.s_hi) (rescaled_is Ceiling v.s_hi (decimal e.lo e.s_hi)).rounded (gap_below (whole && not allowed.zero) refl f) in
      let low = hx.low in
      at_most v.lo b m (gap allowed whole) low up
    where
      at_most : (l b z g : ℤ) → l ≤ℤ z → b ≤ℤ (z -ℤ g) → int_max l (b +ℤ g) ≤ℤ z
      at_most l b z g p q = omega (arith, ints, clamps)

  high_holds : (t : Bool) → allowed.plus ≡ t → m ≤ℤ (if t then v.hi else int_min v.hi (numerator_of (rescaled Floor v.s_hi (decimal e.hi e.s_hi)) -ℤ gap allowed whole))
  high_holds true f = hx.high
  high_holds false f =
      let b = numerator_of (rescaled Floor v.s_hi (decimal e.hi e.s_hi)) in
      let down : (m +ℤ gap allowed whole) ≤ℤ b = rounded_down (e.hi *ℤ ten_to v.s_hi) b (m +ℤ gap allowed whole) (10 ^ e.s_hi) (rescaled_is Floor v.s_hi (decimal e.hi e.s_hi)).rounded (gap_above (whole && not allowed.zero) refl f) in
      let high = hx.high in
      at_least v.hi b m (gap allowed whole) high down
    where
      at_least : (h b z g : ℤ) → z ≤ℤ h → (z +ℤ g) ≤ℤ b → z ≤ℤ int_min h (b -ℤ g)
      at_least h b z g p q = omega (arith, ints, clamps)

  abbrev part : Interval
  part = interval (low_end v e allowed whole) (high_end v e allowed whole) v.s_lo v.s_hi

  -- a single value that whole numbers can't equal
  single_apart : is_apart e allowed whole ≡ true → m ≢ e.lo
  single_apart f same =
      let first = both_true whole _ f in
      let second = both_true allowed.minus _ first.1 in
      let third = both_true allowed.plus _ second.1 in
      let fourth = both_true (not allowed.zero) _ third.1 in
      let ends : e.lo ≡ e.hi = let t = fourth.1 in grind (arith, ints, nat_tests) in
      let l = hy.low in
      let h = hy.high in
      whole_apart first.0 (not_true allowed.zero fourth.0) (same ∙ omega (arith, ints))

  moved_low : (t : Bool) → int_eq part.lo e.lo ≡ t → m ≢ e.lo → part.lo ≤ℤ m → (if t then part.lo +ℤ pos 1 else part.lo) ≤ℤ m
  moved_low true f apart l = let same : part.lo ≡ e.lo = grind (arith, ints, nat_tests) in omega (arith, ints)
  moved_low false f apart l = l

  moved_high : (t : Bool) → int_eq part.hi e.lo ≡ t → m ≢ e.lo → m ≤ℤ part.hi → m ≤ℤ (if t then part.hi -ℤ pos 1 else part.hi)
  moved_high true f apart h = let same : part.hi ≡ e.lo = grind (arith, ints, nat_tests) in omega (arith, ints)
  moved_high false f apart h = h

  -- some part is kept, and the decimal lies in it
  pub kept_part : (r : Interval) × (refined v e allowed whole ≡ Some r) × Contains r x
  kept_part = by_apart (is_apart e allowed whole) refl
    where
      low : part.lo ≤ℤ m
      low = low_holds allowed.minus refl

      high : m ≤ℤ part.hi
      high = high_holds allowed.plus refl

      some : (r : Interval) → r.s_lo ≡ v.s_lo → r.s_hi ≡ v.s_hi → r.lo ≤ℤ m → m ≤ℤ r.hi → (s : Interval) × (unless_empty r ≡ Some s) × Contains s x
      some r sl sh l h =
          let e : int_le r.lo r.hi ≡ true = is_most r.lo r.hi (omega (arith, ints)) in (
            r,
            rw e refl,
            record {
              least_scale = omega (arith, hx.least_scale);
              greatest_scale = omega (arith, hx.greatest_scale);
              low = rw sh l;
              high = rw sh h;
            },
          )

      by_apart : (t : Bool) → is_apart e allowed whole ≡ t → (r : Interval) × (unless_empty (if t then without_end e.lo part else part) ≡ Some r) × Contains r x
      by_apart false f = some part refl refl low high
      by_apart true f =
          let apart = single_apart f in
          some (without_end e.lo part) refl refl (moved_low (int_eq part.lo e.lo) refl apart low) (moved_high (int_eq part.hi e.lo) refl apart high)

pub refinement_sound : (v e r : Interval) (allowed : SignSet) (whole : Bool) → OnTrue whole (IsWhole v) → OnTrue whole (IsWhole e) → refined v e allowed whole ≡ Some r → RefinementIsSound v e allowed r
refinement_sound v e r allowed whole wv we is x h =
    let part = kept_part v e allowed whole x h.other h.is h.of (compared v e allowed x h.other h.is h.of h.sign) wv we in
    let same : part.0 ≡ r = some_is part.0 r (sym part.1 ∙ is) in
    subst (λ s. Contains s x) same part.2
  where
    some_is : (s t : Interval) → ◌≡◌ {A = Option Interval} (Some s) (Some t) → s ≡ t
    some_is s t e = cc

pub none_allowed : (v e : Interval) (allowed : SignSet) (whole : Bool) → OnTrue whole (IsWhole v) → OnTrue whole (IsWhole e) → refined v e allowed whole ≡ None → NoneIsAllowed v e allowed
none_allowed v e allowed whole wv we is x h =
    let part = kept_part v e allowed whole x h.other h.is h.of (compared v e allowed x h.other h.is h.of h.sign) wv we in
    apart part.0 (sym part.1 ∙ is)
  where
    apart : (s : Interval) → ◌≡◌ {A = Option Interval} (Some s) None → ⊥
    apart s e = cc

-- what the code has computed, whether the value is single or not
pub refined_apart : (v e : Interval) (allowed : SignSet) (whole : Bool) → is_apart e allowed whole ≡ true → refined v e allowed whole ≡ unless_empty (without_end e.lo (interval (low_end v e allowed whole) (high_end v e allowed whole) v.s_lo v.s_hi))
refined_apart v e allowed whole f = by_test (is_apart e allowed whole) f
  where
    by_test : (t : Bool) → t ≡ true → unless_empty (if t then without_end e.lo (interval (low_end v e allowed whole) (high_end v e allowed whole) v.s_lo v.s_hi) else interval (low_end v e allowed whole) (high_end v e allowed whole) v.s_lo v.s_hi) ≡ unless_empty (without_end e.lo (interval (low_end v e allowed whole) (high_end v e allowed whole) v.s_lo v.s_hi))
    by_test true g = refl
    by_test false g = absurd (cc)

pub refined_part : (v e : Interval) (allowed : SignSet) (whole : Bool) → is_apart e allowed whole ≡ false → refined v e allowed whole ≡ unless_empty (interval (low_end v e allowed whole) (high_end v e allowed whole) v.s_lo v.s_hi)
refined_part v e allowed whole f = by_test (is_apart e allowed whole) f
  where
    by_test : (t : Bool) → t ≡ false → unless_empty (if t then without_end e.lo (interval (low_end v e allowed whole) (high_end v e allowed whole) v.s_lo v.s_hi) else interval (low_end v e allowed whole) (high_end v e allowed whole) v.s_lo v.s_hi) ≡ unless_empty (interval (low_end v e allowed whole) (high_end v e allowed whole) v.s_lo v.s_hi)
    by_test true g = absurd (cc)
    by_test false g = refl

pub if_some : (o : Option Interval) (P : Interval → Type 0) → ((r : Interval) → o ≡ Some r → P r) → IfSome o P
if_some (Some r) P f = f r refl
if_some None P f = tt

pub if_none : (o : Option Interval) (P : Type 0) → (o ≡ None → P) → IfNone o P
if_none (Some r) P f = tt
if_none None P f = f refl
