-- Whole numbers, powers of ten and tests of the limit.
use Rattle.std.proofs.Common.{◌≡◌, ℕ, ◌+◌, ◌*◌, ◌^◌, ◌<◌, ◌≤◌, ℤ, pos, ◌+ℤ◌, ◌*ℤ◌, ◌≤ℤ◌, unsigned_abs, false, sym, ap, ◌∙◌, arith}
use Rattle.std.proofs.lemmas.Int.{ints, unsigned_abs-mul}
use Rattle.std.proofs.lemmas.Bool.Decides.{nat_tests}
use Rattle.std.proofs.lemmas.Nat.{pow-add}
use Rattle.std.proofs.Math.Nat.{one-le-pow, pow-le-pow_right, mul-le-mul_left}
use borrow.Author.Differences.{sum_is_lem, up, down}
use Rattle.scaled_decimal.specs.laws.IntegerLemmas.{times_assoc}
use Rattle.scaled_decimal.specs.Decimals.{ten_to}
use Rattle.scaled_decimal.specs.Limits.{IsWithinLimit}
use Rattle.interval_num.specs.Alignment.{is_beyond}
use Rattle.interval_num.specs.Rows.{most_power}

pub ten_some : (k : ℕ) → 0 < 10 ^ k
ten_some k = one-le-pow k 10 (omega arith)

pub ten_add : (i j m : ℕ) → i + j ≡ m → ten_to i *ℤ ten_to j ≡ ten_to m
ten_add i j m e = ap pos (sym (pow-add 10 i j)) ∙ ap (λ x. pos (10 ^ x)) e

pub power_kept : (k : ℕ) → k ≤ most_power → IsWithinLimit (ten_to k)
power_kept k h = pow-le-pow_right {n = 10} (omega arith) h

-- a number that two powers multiply
pub longer : (n : ℤ) (i j m : ℕ) → i + j ≡ m → (n *ℤ ten_to i) *ℤ ten_to j ≡ n *ℤ ten_to m
longer n i j m e = times_assoc n (ten_to i) (ten_to j) ∙ ap (λ x. n *ℤ x) (ten_add i j m e)

pub times_one : (n : ℤ) → n *ℤ ten_to 0 ≡ n
times_one n = omega (arith, ints)

pub times_plus : (a b c : ℤ) → (a +ℤ b) *ℤ c ≡ a *ℤ c +ℤ b *ℤ c
times_plus a b c =
    let s0 = ap (λ t. t * up c) (sum_is_lem a b) in
    let s1 = ap (λ t. t * down c) (sum_is_lem a b) in
    omega (arith, ints)

-- a longer numerator has a greater magnitude
pub abs_longer : (n : ℤ) (i j : ℕ) → i ≤ j → unsigned_abs (n *ℤ ten_to i) ≤ unsigned_abs (n *ℤ ten_to j)
abs_longer n i j h =
    let left = unsigned_abs-mul n (ten_to i) in
    let right = unsigned_abs-mul n (ten_to j) in
    let power : 10 ^ i ≤ 10 ^ j = pow-le-pow_right {n = 10} (omega arith) h in
    let more = mul-le-mul_left (unsigned_abs n) power in
    omega arith

pub kept_shorter : (n : ℤ) (i j : ℕ) → i ≤ j → IsWithinLimit (n *ℤ ten_to j) → IsWithinLimit (n *ℤ ten_to i)
kept_shorter n i j h kept = let le = abs_longer n i j h in omega (arith, kept)

pub kept_between : (l z h : ℤ) → l ≤ℤ z → z ≤ℤ h → IsWithinLimit l → IsWithinLimit h → IsWithinLimit z
kept_between l z h p q f g = omega (arith, ints)

-- the test of the limit
pub within_out : (n : ℤ) → is_beyond n ≡ false → IsWithinLimit n
within_out n e = grind (arith, nat_tests)

pub within_in : (n : ℤ) → IsWithinLimit n → is_beyond n ≡ false
within_in n h = grind (arith, nat_tests)
