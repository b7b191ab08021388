-- The order of two decimals by their values.
use Rattle.std.proofs.Common.{◌≡◌, ◌↔◌, ℕ, ◌+◌, ◌-◌, ◌*◌, ◌^◌, ◌<◌, ◌≤◌, ℤ, pos, ◌*ℤ◌, unsigned_abs, Ordering, Less, Equal, Greater, sym, ap, ap₂, ◌∙◌, arith}
use Rattle.std.specs.Ordering.{int_cmp, MatchOrdering, ordering_reverse}
use Rattle.std.specs.Cmp.{int_ranks, int_cmp_is, int_cmp_total}
use Rattle.std.proofs.lemmas.Int.{unsigned_abs-mul}
use Rattle.std.proofs.lemmas.Nat.{pow-add}
use Rattle.std.proofs.Math.Nat.{mul-le-mul_right, le_of_mul-le-mul_right}
use Rattle.scaled_decimal.specs.Limits.{IsWithinLimit}
use Rattle.scaled_decimal.specs.laws.IntegerLemmas.{times_assoc, lt_times}
use Rattle.scaled_decimal.specs.Decimals.{Decimal, numerator_of, scale_of, numerator_at, greater_scale, ten_to, value_order}
use Rattle.scaled_decimal.proofs.PowerLemmas.{ten_add, ten_some}

ranks_map : (r : Ordering) (P Q R P' Q' R' : Type 0) → (P → P') → (Q → Q') → (R → R') → MatchOrdering r P Q R → MatchOrdering r P' Q' R'
ranks_map Less P Q R P' Q' R' f g h m = f m
ranks_map Equal P Q R P' Q' R' f g h m = g m
ranks_map Greater P Q R P' Q' R' f g h m = h m

-- two numbers multiplied by one number above 0 keep their order
pub order_times : (x y : ℤ) (k : ℕ) → 0 < k → int_cmp x y ≡ int_cmp (x *ℤ pos k) (y *ℤ pos k)
order_times x y k some = int_cmp_is (x *ℤ pos k) (y *ℤ pos k) (int_cmp x y) (ranks_map (int_cmp x y) _ _ _ _ _ _ (lt_times x y k some) (λ e. ap (λ z. z *ℤ pos k) e) (lt_times y x k some) (int_ranks x y))

longer : (n : ℤ) (i j k : ℕ) → i + j ≡ k → (n *ℤ ten_to i) *ℤ ten_to j ≡ n *ℤ ten_to k
longer n i j k e = times_assoc n (ten_to i) (ten_to j) ∙ ap (λ x. n *ℤ x) (ten_add i j k e)

-- the aligned numerators are in the order of the values
pub aligned_order : (a b : Decimal) → int_cmp (numerator_at (greater_scale a b) a) (numerator_at (greater_scale a b) b) ≡ value_order a b
aligned_order a b =
    let s = greater_scale a b in
    let k : ℕ = scale_of a + scale_of b - s in
    order_times (numerator_at s a) (numerator_at s b) (10 ^ k) (ten_some k)
    ∙ ap₂ int_cmp (longer (numerator_of a) (s - scale_of a) k (scale_of b) (omega arith)) (longer (numerator_of b) (s - scale_of b) k (scale_of a) (omega arith))

-- the same, where the second scale is the longer one
pub order_longer_right : (a b : Decimal) → scale_of a ≤ scale_of b → ordering_reverse (int_cmp (numerator_of b) (numerator_of a *ℤ ten_to (scale_of b - scale_of a))) ≡ value_order a b
order_longer_right a b h =
    let x = numerator_of a *ℤ ten_to (scale_of b - scale_of a) in
    sym (int_cmp_total.antisymm x (numerator_of b))
    ∙ order_times x (numerator_of b) (10 ^ scale_of a) (ten_some (scale_of a))
    ∙ ap (λ z. int_cmp z (numerator_of b *ℤ ten_to (scale_of a))) (longer (numerator_of a) (scale_of b - scale_of a) (scale_of a) (scale_of b) (omega arith))

-- the same, where the first scale is the longer one
pub order_longer_left : (a b : Decimal) → scale_of b ≤ scale_of a → int_cmp (numerator_of a) (numerator_of b *ℤ ten_to (scale_of a - scale_of b)) ≡ value_order a b
order_longer_left a b h =
    let y = numerator_of b *ℤ ten_to (scale_of a - scale_of b) in
    order_times (numerator_of a) y (10 ^ scale_of b) (ten_some (scale_of b))
    ∙ ap (λ z. int_cmp (numerator_of a *ℤ ten_to (scale_of b)) z) (longer (numerator_of b) (scale_of a - scale_of b) (scale_of b) (scale_of a) (omega arith))

-- the same, where both scales are one
pub order_level : (a b : Decimal) → scale_of a ≡ scale_of b → int_cmp (numerator_of a) (numerator_of b) ≡ value_order a b
order_level a b h =
    order_times (numerator_of a) (numerator_of b) (10 ^ scale_of b) (ten_some (scale_of b))
    ∙ ap (λ s. int_cmp (numerator_of a *ℤ ten_to (scale_of b)) (numerator_of b *ℤ ten_to s)) (sym h)

-- a number is within the limit with more zeros exactly where it is small enough
pub fits_longer : (n : ℤ) (p : ℕ) → p ≤ 37 → (unsigned_abs n ≤ 10 ^ (37 - p)) ↔ IsWithinLimit (n *ℤ ten_to p)
fits_longer n p few =
    let size = unsigned_abs-mul n (ten_to p) in
    let places : 37 - p + p ≡ 37 = omega arith in
    let whole : 10 ^ (37 - p) * 10 ^ p ≡ 10 ^ 37 = sym (pow-add 10 (37 - p) p) ∙ ap (λ k. 10 ^ k) places in
    (λ small. (let grown = mul-le-mul_right (10 ^ p) small in omega arith), λ kept. le_of_mul-le-mul_right (omega arith) (ten_some p))
