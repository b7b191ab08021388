-- `fits` tells which values fit a limit; those that fit the limit of a `double` are kept at three places.
use Rattle.std.proofs.Common.{◌≡◌, ℕ, ◌-◌, ◌^◌, ◌≤◌, ℤ, ◌*ℤ◌, ◌≤ℤ◌, ◌<ℤ◌, unsigned_abs, false, not, ap, ◌∙◌, arith, subst}
use Rattle.std.specs.Prelude.{IsTrue, nat_le}
use Rattle.std.specs.Bool.{Decides}
use Rattle.std.specs.Ordering.{int_cmp, is_gt, MatchOrdering}
use Rattle.std.specs.declared.cmp.Ordering.{Ordering}
use Rattle.std.specs.declared.cmp.Ordering.TheVariants.{Less, Equal, Greater}
use Rattle.std.specs.Cmp.{int_ranks}
use Rattle.std.proofs.lemmas.Bool.{true≢false, not-true, not_from_false, leb-true, le-leb}
use Rattle.std.proofs.lemmas.Bool.Decides.{Decides-and, Decides-like}
use Rattle.std.proofs.lemmas.Int.{ints}
use Rattle.scaled_decimal.specs.Decimals.{Decimal, numerator_at, scale_of, greater_scale, ten_to, value_order}
use Rattle.scaled_decimal.specs.Limits.{IsWithinLimit, limit as most}
use Rattle.scaled_decimal.proofs.Laws.{le_times, aligned_order}
use Rattle.pap_types.specs.Kinds.{has_few_places}
use Rattle.limits_file.specs.declared.limits.InputLimit.{InputLimit}
use Rattle.limits_file.specs.Limits.{Fits, IsNoGreater, IsFactorLimit}
use Rattle.carry_bindings.specs.Filling.{FitsIsTold, fits}
use Rattle.carry_bindings.proofs.AmountLemmas.{longer}

-- ---- what is told

at_most_told : (a b : Decimal) → Decides (not (is_gt (value_order a b))) (IsNoGreater a b)
at_most_told a b = (not-true (is_gt (value_order a b)), not_from_false (is_gt (value_order a b)))

places_told : (m n : ℕ) → Decides (nat_le m n) (m ≤ n)
places_told m n = (leb-true m n, le-leb m n)

pub told : FitsIsTold
told limit v =
    let places = places_told (scale_of v) limit.places in
    let above = at_most_told limit.low v in
    let below = at_most_told v limit.high in
    Decides-like (fits limit v)
    (λ h. record { places = h.0.0; above = h.0.1; below = h.1 })
    (λ h. ((h.places, h.above), h.below))
    (Decides-and _ _ (Decides-and _ _ places above) below)

-- ---- a `double`

at_most : (x y : ℤ) → is_gt (int_cmp x y) ≡ false → x ≤ℤ y
at_most x y h = by (int_cmp x y) (int_ranks x y) h
  where
    by : (o : Ordering) → MatchOrdering o (x <ℤ y) (x ≡ y) (y <ℤ x) → is_gt o ≡ false → x ≤ℤ y
    by Less m t = omega (arith, ints)
    by Equal m t = omega (arith, ints)
    by Greater m t = absurd (true≢false t)

order_at : (a b : Decimal) → scale_of a ≤ 3 → scale_of b ≤ 3 → IsNoGreater a b → numerator_at 3 a ≤ℤ numerator_at 3 b
order_at a b l k h =
    let s = greater_scale a b in
    let le = at_most (numerator_at s a) (numerator_at s b) (ap is_gt (aligned_order a b) ∙ h) in
    let more = le_times (numerator_at s a) (numerator_at s b) (10 ^ (3 - s)) le in
    subst (λ (x : ℤ). x ≤ℤ numerator_at 3 b) (longer s 3 a (omega arith) (omega arith))
    (subst (λ (y : ℤ). (numerator_at s a *ℤ ten_to (3 - s)) ≤ℤ y) (longer s 3 b (omega arith) (omega arith)) more)

few_told : (d : Decimal) → Decides (has_few_places d) ((scale_of d ≤ 3) × IsWithinLimit (numerator_at 3 d))
few_told d = Decides-and _ _ (places_told (scale_of d) 3) (places_told (unsigned_abs (numerator_at 3 d)) most)

between : (l z h : ℤ) → IsWithinLimit l → IsWithinLimit h → l ≤ℤ z → z ≤ℤ h → IsWithinLimit z
between l z h a b p q = omega (arith, ints)

pub double_kept : (limit : InputLimit) (v : Decimal) → IsFactorLimit limit → Fits limit v → IsTrue (has_few_places v)
double_kept limit v h fit =
    let few : scale_of v ≤ 3 = omega (arith, h.places, fit.places) in
    let least = (few_told limit.low).0 h.low in
    let greatest = (few_told limit.high).0 h.high in
    let low = order_at limit.low v least.0 few fit.above in
    let high = order_at v limit.high few greatest.0 fit.below in
    (few_told v).1 (few, between _ (numerator_at 3 v) _ least.1 greatest.1 low high)
