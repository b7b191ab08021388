-- What numbers of 128 bits hold: z is kept as its bits, `to_z w128 (of_z w128 z)`. Each lemma takes the code's numbers m
-- and n beside the definition's u and v.
use Rattle.std.proofs.Common.{◌≡◌, ◌+◌, ◌≤◌, ◌^◌, int_div, ℤ, pos, ◌+ℤ◌, ◌-ℤ◌, ◌*ℤ◌, ◌≤ℤ◌, neg_ℤ, unsigned_abs, min, FitsSigned, to_z, of_z, sym, ap, ap₂, ◌∙◌, subst, arith}
use Rattle.std.specs.Int.{w128, int_min, int_max}
use Rattle.std.proofs.lemmas.Int.{ints, clamps, to_z-of_z, fits_signed_from_abs, fits_signed_mul}
use Rattle.scaled_decimal.specs.Limits.{IsWithinLimit, limit}
use Rattle.scaled_decimal.specs.laws.RoundingLemmas.{mag_quot}
use Rattle.scaled_decimal.specs.WholeNumbers.{IsOfBits}
use Rattle.interval_num.specs.declared.wholes.Width.{Width}
use Rattle.interval_num.specs.declared.wholes.Width.TheVariants.{Int, Long}
use Rattle.interval_num.specs.private.Widths.{bits_of}

abbrev pub held : ℤ → ℤ
held z = to_z w128 (of_z w128 z)

pub kept_fits : (n : ℤ) → IsWithinLimit n → FitsSigned w128 n
kept_fits n kept = fits_signed_from_abs w128 n (omega arith)

pub held_is : (n : ℤ) → IsWithinLimit n → held n ≡ n
held_is n kept = to_z-of_z w128 n (kept_fits n kept)

pub held_at : (m u : ℤ) → m ≡ u → IsWithinLimit u → held m ≡ u
held_at m u e kept = ap held e ∙ held_is u kept

pub held_sum : (m n u v : ℤ) → m ≡ u → n ≡ v → IsWithinLimit u → IsWithinLimit v → held (held m +ℤ held n) ≡ u +ℤ v
held_sum m n u v e f p q = ap held (ap₂ (λ x y. x +ℤ y) (held_at m u e p) (held_at n v f q)) ∙ to_z-of_z w128 (u +ℤ v) (fits_signed_from_abs w128 (u +ℤ v) (omega (arith, ints)))

pub held_difference : (m n u v : ℤ) → m ≡ u → n ≡ v → IsWithinLimit u → IsWithinLimit v → held (held m -ℤ held n) ≡ u -ℤ v
held_difference m n u v e f p q = ap held (ap₂ (λ x y. x -ℤ y) (held_at m u e p) (held_at n v f q)) ∙ to_z-of_z w128 (u -ℤ v) (fits_signed_from_abs w128 (u -ℤ v) (omega (arith, ints)))

pub held_product : (m n u v : ℤ) → m ≡ u → n ≡ v → IsWithinLimit u → IsWithinLimit v → IsWithinLimit (u *ℤ v) → held (held m *ℤ held n) ≡ u *ℤ v
held_product m n u v e f p q kept = ap held (ap₂ (λ x y. x *ℤ y) (held_at m u e p) (held_at n v f q)) ∙ held_is (u *ℤ v) kept

pub kept_min : (m n : ℤ) → IsWithinLimit m → IsWithinLimit n → IsWithinLimit (int_min m n)
kept_min m n f g = omega (arith, ints, clamps)

pub kept_max : (m n : ℤ) → IsWithinLimit m → IsWithinLimit n → IsWithinLimit (int_max m n)
kept_max m n f g = omega (arith, ints, clamps)

pub held_min : (r m n u v : ℤ) → r ≡ int_min (held m) (held n) → m ≡ u → n ≡ v → IsWithinLimit u → IsWithinLimit v → held r ≡ int_min u v
held_min r m n u v is e f p q = held_at r (int_min u v) (is ∙ ap₂ int_min (held_at m u e p) (held_at n v f q)) (kept_min u v p q)

pub held_max : (r m n u v : ℤ) → r ≡ int_max (held m) (held n) → m ≡ u → n ≡ v → IsWithinLimit u → IsWithinLimit v → held r ≡ int_max u v
held_max r m n u v is e f p q = held_at r (int_max u v) (is ∙ ap₂ int_max (held_at m u e p) (held_at n v f q)) (kept_max u v p q)

pub min_order : (u v w z : ℤ) → u ≤ℤ w → v ≤ℤ z → int_min u v ≤ℤ int_min w z
min_order u v w z p q = omega (arith, ints, clamps)

pub max_order : (u v w z : ℤ) → u ≤ℤ w → v ≤ℤ z → int_max u v ≤ℤ int_max w z
max_order u v w z p q = omega (arith, ints, clamps)

pub held_opposite : (m u : ℤ) → m ≡ u → IsWithinLimit u → held (pos 0 -ℤ held m) ≡ neg_ℤ u
held_opposite m u e p =
    let zero_less : pos 0 -ℤ u ≡ neg_ℤ u = omega (arith, ints) in
    ap held (ap (λ x. pos 0 -ℤ x) (held_at m u e p) ∙ zero_less) ∙ to_z-of_z w128 (neg_ℤ u) (fits_signed_from_abs w128 (neg_ℤ u) (omega (arith, ints)))

pub held_magnitude : (r m u : ℤ) → r ≡ pos (unsigned_abs (held m)) → m ≡ u → IsWithinLimit u → held r ≡ pos (unsigned_abs u)
held_magnitude r m u is e p = held_at r (pos (unsigned_abs u)) (is ∙ ap (λ x. pos (unsigned_abs x)) (held_at m u e p)) p

pub least_magnitude : (r m n u v : ℤ) → r ≡ int_min (held m) (held n) → m ≡ pos (unsigned_abs u) → n ≡ pos (unsigned_abs v) → IsWithinLimit u → IsWithinLimit v → held r ≡ pos (min (unsigned_abs u) (unsigned_abs v))
least_magnitude r m n u v is e f p q =
    let same : int_min (pos (unsigned_abs u)) (pos (unsigned_abs v)) ≡ pos (min (unsigned_abs u) (unsigned_abs v)) = omega (arith, ints, clamps) in
    held_min r m n (pos (unsigned_abs u)) (pos (unsigned_abs v)) is e f p q ∙ same

pub product_fits : (m n u v : ℤ) → m ≡ u → n ≡ v → IsWithinLimit u → IsWithinLimit v → IsWithinLimit (u *ℤ v) → FitsSigned w128 (held m *ℤ held n)
product_fits m n u v e f p q kept = subst (FitsSigned w128) (sym (ap₂ (λ x y. x *ℤ y) (held_at m u e p) (held_at n v f q))) (kept_fits (u *ℤ v) kept)

-- a quotient is no greater than its dividend
pub held_quotient : (m n u v : ℤ) → m ≡ u → n ≡ v → IsWithinLimit u → IsWithinLimit v → held (int_div (held m) (held n)) ≡ int_div u v
held_quotient m n u v e f p q =
    let small = mag_quot u v in
    ap held (ap₂ int_div (held_at m u e p) (held_at n v f q)) ∙ held_is (int_div u v) (omega (arith, p, small))

-- products of numbers of 64 bits
pub small_fits : (u v : ℤ) → unsigned_abs u ≤ 2 ^ 63 → unsigned_abs v ≤ 2 ^ 63 → FitsSigned w128 (u *ℤ v)
small_fits u v p q = fits_signed_mul w128 u v (2 ^ 63) (2 ^ 63) p q (omega arith)

pub held_small : (m u : ℤ) → m ≡ u → unsigned_abs u ≤ 2 ^ 63 → held m ≡ u
held_small m u e p = ap held e ∙ to_z-of_z w128 u (fits_signed_from_abs w128 u (omega arith))

pub held_small_product : (m n u v : ℤ) → m ≡ u → n ≡ v → unsigned_abs u ≤ 2 ^ 63 → unsigned_abs v ≤ 2 ^ 63 → held (held m *ℤ held n) ≡ u *ℤ v
held_small_product m n u v e f p q = ap held (ap₂ (λ x y. x *ℤ y) (held_small m u e p) (held_small n v f q)) ∙ to_z-of_z w128 (u *ℤ v) (small_fits u v p q)

pub small_product_fits : (m n u v : ℤ) → m ≡ u → n ≡ v → unsigned_abs u ≤ 2 ^ 63 → unsigned_abs v ≤ 2 ^ 63 → FitsSigned w128 (held m *ℤ held n)
small_product_fits m n u v e f p q = subst (FitsSigned w128) (sym (ap₂ (λ x y. x *ℤ y) (held_small m u e p) (held_small n v f q))) (small_fits u v p q)

pub of_width_small : (width : Width) (n : ℤ) → IsOfBits (bits_of width) n → unsigned_abs n ≤ 2 ^ 63
of_width_small Int n h = omega (arith, ints, h.low, h.high)
of_width_small Long n h = omega (arith, ints, h.low, h.high)

pub of_width_kept : (width : Width) (n : ℤ) → IsOfBits (bits_of width) n → IsWithinLimit n
of_width_kept width n h = let small = of_width_small width n h in omega arith

-- an end that a gap of at most one moves
pub near_fits : (u : ℤ) → unsigned_abs u ≤ limit + 1 → FitsSigned w128 u
near_fits u h = fits_signed_from_abs w128 u (omega arith)

pub held_near : (m u : ℤ) → m ≡ u → unsigned_abs u ≤ limit + 1 → held m ≡ u
held_near m u e h = ap held e ∙ to_z-of_z w128 u (near_fits u h)

pub record IsNearEnd (r z : ℤ) : Type 0 where
  pub is : held r ≡ z
  pub small : unsigned_abs z ≤ limit + 1

pub held_raised : (r m x y u b g : ℤ) → r ≡ int_max (held m) (held (held x +ℤ held y)) → m ≡ u → x ≡ b → y ≡ g → IsWithinLimit u → IsWithinLimit b → unsigned_abs g ≤ 1 → IsNearEnd r (int_max u (b +ℤ g))
held_raised r m x y u b g is e f h p q one =
    let gap : IsWithinLimit g = omega arith in
    let moved = held_sum x y b g f h q gap in
    let small : unsigned_abs (int_max u (b +ℤ g)) ≤ limit + 1 = omega (arith, ints, clamps) in
    record { is = held_near r (int_max u (b +ℤ g)) (is ∙ ap₂ int_max (held_at m u e p) moved) small; small = small }

pub held_lowered : (r m x y u b g : ℤ) → r ≡ int_min (held m) (held (held x -ℤ held y)) → m ≡ u → x ≡ b → y ≡ g → IsWithinLimit u → IsWithinLimit b → unsigned_abs g ≤ 1 → IsNearEnd r (int_min u (b -ℤ g))
held_lowered r m x y u b g is e f h p q one =
    let gap : IsWithinLimit g = omega arith in
    let moved = held_difference x y b g f h q gap in
    let small : unsigned_abs (int_min u (b -ℤ g)) ≤ limit + 1 = omega (arith, ints, clamps) in
    record { is = held_near r (int_min u (b -ℤ g)) (is ∙ ap₂ int_min (held_at m u e p) moved) small; small = small }
