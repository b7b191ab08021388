-- The order of two values by their numerators at one scale.
use Rattle.std.proofs.Common.{◌≡◌, ℕ, ◌+◌, ◌-◌, ◌^◌, ◌<◌, ◌≤◌, ℤ, pos, ◌*ℤ◌, ◌≤ℤ◌, ◌<ℤ◌, false, Ordering, Less, Equal, Greater, refl, sym, ap, ◌∙◌, subst, arith}
use Rattle.std.specs.Ordering.{int_cmp, is_gt, MatchOrdering}
use Rattle.std.specs.Cmp.{int_ranks}
use Rattle.std.proofs.lemmas.Int.{ints}
use Rattle.scaled_decimal.specs.Decimals.{Decimal, numerator_of, scale_of, numerator_at, ten_to, value_order}
use Rattle.scaled_decimal.proofs.Laws.{times_assoc, ten_add, ten_some, le_times, lt_times}

longer : (n : ℤ) (i j k : ℕ) → i + j ≡ k → (n *ℤ ten_to i) *ℤ ten_to j ≡ n *ℤ ten_to k
longer n i j k e = times_assoc n (ten_to i) (ten_to j) ∙ ap (λ x. n *ℤ x) (ten_add i j k e)

-- two numbers, the first of which isn't greater where both are multiplied
below_times : (x y : ℤ) (k : ℕ) → 0 < k → (x *ℤ pos k) ≤ℤ (y *ℤ pos k) → is_gt (int_cmp x y) ≡ false
below_times x y k some le = by_ranks (int_cmp x y) (int_ranks x y)
  where
    by_ranks : (o : Ordering) → MatchOrdering o (x <ℤ y) (x ≡ y) (y <ℤ x) → is_gt o ≡ false
    by_ranks Less m = refl
    by_ranks Equal m = refl
    by_ranks Greater m = absurd (let more = lt_times y x k some m in omega (arith, ints))

-- a value whose numerator is at most that of another, at a scale that both have, is at most the other
pub from_numerators : (a b : Decimal) (q : ℕ) → scale_of a ≤ q → scale_of b ≤ q
    → numerator_at q a ≤ℤ numerator_at q b → is_gt (value_order a b) ≡ false
from_numerators a b q la lb le =
    let i = scale_of a in
    let j = scale_of b in
    let more = le_times (numerator_at q a) (numerator_at q b) (10 ^ (i + j)) le in
    let left : numerator_at q a *ℤ ten_to (i + j) ≡ (numerator_of a *ℤ ten_to j) *ℤ ten_to q =
    longer (numerator_of a) (q - i) (i + j) (q + j) (omega arith)
    ∙ sym (longer (numerator_of a) j q (q + j) (omega arith)) in
    let right : numerator_at q b *ℤ ten_to (i + j) ≡ (numerator_of b *ℤ ten_to i) *ℤ ten_to q =
    longer (numerator_of b) (q - j) (i + j) (q + i) (omega arith)
    ∙ sym (longer (numerator_of b) i q (q + i) (omega arith)) in
    below_times (numerator_of a *ℤ ten_to j) (numerator_of b *ℤ ten_to i) (10 ^ q) (ten_some q)
    (subst (λ n. n ≤ℤ ((numerator_of b *ℤ ten_to i) *ℤ ten_to q)) left
    (subst (λ n. (numerator_at q a *ℤ ten_to (i + j)) ≤ℤ n) right more))

-- the numerator of a value at its own scale
pub own_numerator : (n : ℤ) (s : ℕ) → numerator_at s (n, s) ≡ n
own_numerator n s =
    let none : s - s ≡ 0 = omega arith in
    let one : n *ℤ ten_to 0 ≡ n = omega (arith, ints) in
    ap (λ k. n *ℤ ten_to k) none ∙ one
