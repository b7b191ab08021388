-- Products of whole numbers.
use Rattle.std.proofs.Common.{◌≡◌, ℕ, zero, suc, ◌+◌, ◌*◌, ◌<◌, ◌≤◌, ℤ, pos, negsuc, ◌+ℤ◌, ◌-ℤ◌, ◌*ℤ◌, neg_ℤ, ◌≤ℤ◌, ◌<ℤ◌, unsigned_abs, arith, ap, refl, sym, ◌∙◌}
use Rattle.std.proofs.lemmas.Int.{ints}
use Rattle.std.proofs.Math.Nat.{mul-le-mul_right}
use borrow.Author.Differences.{up, down, sum_is_lem, neg_is, product_is, lt_out, le_out}

pub times_more : (q d : ℤ) → (q +ℤ pos 1) *ℤ d ≡ q *ℤ d +ℤ d
times_more q d =
    let above = ap (λ t. t * up d) (sum_is_lem q (pos 1)) in
    let below = ap (λ t. t * down d) (sum_is_lem q (pos 1)) in
    omega (arith, ints)

pub times_less : (q d : ℤ) → (q -ℤ pos 1) *ℤ d ≡ q *ℤ d -ℤ d
times_less q d =
    let above = ap (λ t. t * up d) (sum_is_lem q (negsuc 0)) in
    let below = ap (λ t. t * down d) (sum_is_lem q (negsuc 0)) in
    omega (arith, ints)

pub times_neg : (q d : ℤ) → neg_ℤ q *ℤ d ≡ neg_ℤ (q *ℤ d)
times_neg q d =
    let a = ap (λ t. t * up d) (neg_is q).0 in
    let b = ap (λ t. t * up d) (neg_is q).1 in
    let e = ap (λ t. t * down d) (neg_is q).0 in
    let f = ap (λ t. t * down d) (neg_is q).1 in
    omega (arith, ints)

pub times_neg_right : (q d : ℤ) → q *ℤ neg_ℤ d ≡ neg_ℤ (q *ℤ d)
times_neg_right q d =
    let a = ap (λ t. up q * t) (neg_is d).0 in
    let b = ap (λ t. up q * t) (neg_is d).1 in
    let e = ap (λ t. down q * t) (neg_is d).0 in
    let f = ap (λ t. down q * t) (neg_is d).1 in
    omega (arith, ints)

pub times_sub : (a b c : ℤ) → (a -ℤ b) *ℤ c ≡ a *ℤ c -ℤ b *ℤ c
times_sub a b c =
    let n = neg_is b in
    let s = sum_is_lem a (neg_ℤ b) in
    let n0 = ap (λ t. t * up c) n.0 in
    let n1 = ap (λ t. t * up c) n.1 in
    let n2 = ap (λ t. t * down c) n.0 in
    let n3 = ap (λ t. t * down c) n.1 in
    let s0 = ap (λ t. t * up c) s in
    let s1 = ap (λ t. t * down c) s in
    omega (arith, ints)

pub times_assoc : (a b c : ℤ) → (a *ℤ b) *ℤ c ≡ a *ℤ (b *ℤ c)
times_assoc a b c =
    let p = product_is a b in
    let q = product_is b c in
    let e0 = ap (λ t. t * up c) p.0 in
    let e1 = ap (λ t. t * down c) p.0 in
    let e2 = ap (λ t. t * up c) p.1 in
    let e3 = ap (λ t. t * down c) p.1 in
    let f0 = ap (λ t. up a * t) q.0 in
    let f1 = ap (λ t. down a * t) q.0 in
    let f2 = ap (λ t. up a * t) q.1 in
    let f3 = ap (λ t. down a * t) q.1 in
    omega (arith, ints)

pub le_times : (a b : ℤ) (k : ℕ) → a ≤ℤ b → (a *ℤ pos k) ≤ℤ (b *ℤ pos k)
le_times a b k h =
    let m = mul-le-mul_right k (le_out a b h) in
    omega (arith, ints)

pub lt_times : (a b : ℤ) (k : ℕ) → 0 < k → a <ℤ b → (a *ℤ pos k) <ℤ (b *ℤ pos k)
lt_times a b k some h =
    let m = mul-le-mul_right k (lt_out a b h) in
    omega (arith, ints)

-- a product is 0 only where a factor is
pub times_zero : (n : ℤ) (k : ℕ) → 0 < k → n *ℤ pos k ≡ pos 0 → n ≡ pos 0
times_zero (pos zero) k some e = refl
times_zero (pos (suc a)) k some e = absurd (omega (arith, ints))
times_zero (negsuc a) k some e = absurd (omega (arith, ints))

-- one factor, not 0, on both sides
pub times_cancel : (a b : ℤ) (k : ℕ) → 0 < k → a *ℤ pos k ≡ b *ℤ pos k → a ≡ b
times_cancel a b k some e =
    let apart : (a -ℤ b) *ℤ pos k ≡ pos 0 = let m = times_sub a b (pos k) in omega (arith, ints) in
    let same = times_zero (a -ℤ b) k some apart in
    omega (arith, ints)

-- the last two factors change places
pub times_swap : (a b c : ℤ) → (a *ℤ b) *ℤ c ≡ (a *ℤ c) *ℤ b
times_swap a b c = times_assoc a b c ∙ ap (λ t. a *ℤ t) (commute b c) ∙ sym (times_assoc a c b) where
  commute : (x y : ℤ) → x *ℤ y ≡ y *ℤ x
  commute x y = omega (arith, ints)

-- the two signs
pub by_sign : (P : Type 0) (n : ℤ) → (pos 0 ≤ℤ n → P) → (n <ℤ pos 0 → P) → P
by_sign P (pos n) f g = f (omega (arith, ints))
by_sign P (negsuc n) f g = g (omega (arith, ints))

-- the magnitude of a number that is not 0
pub some_abs : (d : ℤ) → (d ≡ pos 0 → ⊥) → 0 < unsigned_abs d
some_abs (pos zero) h = absurd (h refl)
some_abs (pos (suc d)) h = omega arith
some_abs (negsuc d) h = omega arith

pub abs_sub : (a b : ℤ) → unsigned_abs (a -ℤ b) ≤ unsigned_abs a + unsigned_abs b
abs_sub a b = omega (arith, ints)
