-- Powers of ten, and roundings of numbers that they multiply.
use Rattle.std.proofs.Common.{◌≡◌, ℕ, zero, suc, ◌+◌, ◌-◌, ◌^◌, ◌<◌, ◌≤◌, ℤ, pos, ◌*ℤ◌, List, [], ◌∷◌, get_or, FitsSigned, refl, sym, ap, ◌∙◌, subst, inl, inr, arith}
use Rattle.std.specs.Int.{w128}
use Rattle.std.proofs.lemmas.Int.{ints}
use Rattle.std.proofs.lemmas.Nat.{pow-add}
use Rattle.std.proofs.lemmas.Bool.{cases_lt}
use Rattle.std.proofs.Math.Nat.{one-le-pow, pow-le-pow_right}
use Rattle.scaled_decimal.specs.declared.rounding.Mode.{Mode}
use Rattle.scaled_decimal.specs.Rounding.{Rounds}
use Rattle.scaled_decimal.specs.Decimals.{ten_to}
use Rattle.scaled_decimal.specs.laws.RoundingLemmas.{exact}
use Rattle.scaled_decimal.specs.laws.ScaledLemmas.{rounds_scaled}
use Rattle.scaled_decimal.specs.laws.IntegerLemmas.{times_assoc}

-- 10 ^ k, 10 ^ (k + 1) and so on, as many as n
abbrev pub powers_from : ℕ → ℕ → List ℤ
powers_from k zero = []
powers_from k (suc n) = pos (10 ^ k) ∷ powers_from (suc k) n

pub power_at : (a n k : ℕ) (d : ℤ) → k < n → get_or (powers_from a n) k d ≡ pos (10 ^ (a + k))
power_at a zero k d h = absurd (omega arith)
power_at a (suc n) zero d h = ap (λ j. pos (10 ^ j)) (omega arith)
power_at a (suc n) (suc k) d h = power_at (suc a) n k d (omega arith) ∙ ap (λ j. pos (10 ^ j)) (omega arith)

pub power_le : (k : ℕ) → k ≤ 37 → 10 ^ k ≤ 10 ^ 37
power_le k h = pow-le-pow_right (omega arith) h

pub power_fits : (k : ℕ) → k ≤ 37 → FitsSigned w128 (pos (10 ^ k))
power_fits k h = let small = power_le k h in omega (arith, ints)

-- powers that are multiplied
pub ten_add : (i j m : ℕ) → i + j ≡ m → ten_to i *ℤ ten_to j ≡ ten_to m
ten_add i j m e = ap pos (sym (pow-add 10 i j)) ∙ ap (λ x. pos (10 ^ x)) e

pub ten_some : (k : ℕ) → 0 < 10 ^ k
ten_some k = one-le-pow k 10 (omega arith)

-- the same quotient, by longer numbers
pub lengthened : (mode : Mode) (n d q : ℤ) (i j k m : ℕ) → i + k ≡ m → Rounds mode (n *ℤ ten_to i) (d *ℤ ten_to j) q → Rounds mode (n *ℤ ten_to m) (d *ℤ ten_to (j + k)) q
lengthened mode n d q i j k m e h =
    let scaled_up = rounds_scaled mode (n *ℤ ten_to i) (d *ℤ ten_to j) q (10 ^ k) (ten_some k) h in
    let top : (n *ℤ ten_to i) *ℤ ten_to k ≡ n *ℤ ten_to m = times_assoc n (ten_to i) (ten_to k) ∙ ap (λ x. n *ℤ x) (ten_add i k m e) in
    let bottom : (d *ℤ ten_to j) *ℤ ten_to k ≡ d *ℤ ten_to (j + k) = times_assoc d (ten_to j) (ten_to k) ∙ ap (λ x. d *ℤ x) (ten_add j k (j + k) refl) in
    subst (λ (x : ℤ). Rounds mode (n *ℤ ten_to m) x q) bottom (subst (λ (x : ℤ). Rounds mode x ((d *ℤ ten_to j) *ℤ ten_to k) q) top scaled_up)

-- a numerator at a longer scale is its own rounding
pub exact_longer : (mode : Mode) (n : ℤ) (from s : ℕ) → from ≤ s → Rounds mode (n *ℤ ten_to s) (ten_to from) (n *ℤ ten_to (s - from))
exact_longer mode n from s h = exact mode (n *ℤ ten_to s) (n *ℤ ten_to (s - from)) (10 ^ from) (ten_some from) (sym (times_assoc n (ten_to (s - from)) (ten_to from) ∙ ap (λ x. n *ℤ x) (ten_add (s - from) from s (omega arith))))

-- a rounding to a shorter scale
pub shortened : (mode : Mode) (n q : ℤ) (from s : ℕ) → s ≤ from → Rounds mode n (ten_to (from - s)) q → Rounds mode (n *ℤ ten_to s) (ten_to from) q
shortened mode n q from s h r = subst (λ (x : ℤ). Rounds mode (n *ℤ ten_to s) x q) (ten_add (from - s) s from (omega arith)) (rounds_scaled mode n (ten_to (from - s)) q (10 ^ s) (ten_some s) r)

pub ten_not_zero : (k : ℕ) → ten_to k ≡ pos 0 → ⊥
ten_not_zero k e = let some = ten_some k in omega (arith, ints)

pub power_bound : (k : ℕ) → 10 ^ k ≤ 10 ^ 37 → k ≤ 37
power_bound k h = elim (cases_lt 37 k) [ inl l ↦ absurd (let more : 10 ^ 38 ≤ 10 ^ k = pow-le-pow_right {n = 10} (omega arith) l in omega arith) | inr r ↦ r ]

-- a quotient by a longer numerator, and by a longer divisor
pub over : (mode : Mode) (n d q : ℤ) (e k m : ℕ) → e + k ≡ m → Rounds mode (n *ℤ ten_to e) d q → Rounds mode (n *ℤ ten_to m) (d *ℤ ten_to k) q
over mode n d q e k m h r = subst (λ (x : ℤ). Rounds mode x (d *ℤ ten_to k) q) (times_assoc n (ten_to e) (ten_to k) ∙ ap (λ x. n *ℤ x) (ten_add e k m h)) (rounds_scaled mode (n *ℤ ten_to e) d q (10 ^ k) (ten_some k) r)

pub under : (mode : Mode) (n d q : ℤ) (e m k : ℕ) → e + m ≡ k → Rounds mode n (d *ℤ ten_to e) q → Rounds mode (n *ℤ ten_to m) (d *ℤ ten_to k) q
under mode n d q e m k h r = subst (λ (x : ℤ). Rounds mode (n *ℤ ten_to m) x q) (times_assoc d (ten_to e) (ten_to m) ∙ ap (λ x. d *ℤ x) (ten_add e m k h)) (rounds_scaled mode n (d *ℤ ten_to e) q (10 ^ m) (ten_some m) r)
