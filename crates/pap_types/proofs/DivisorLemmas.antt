-- The test for plain divisors says what `IsPlainDivisor` says.
use Rattle.std.proofs.Common.{◌≡◌, ℕ, ◌*◌, ◌/◌, ◌%◌, ◌^◌, ◌<◌, ℤ, pos, negsuc, nat_lt, Bool, true, false, ◌&&◌, refl, sym, ◌∙◌, arith}
use Rattle.std.specs.Prelude.{◌==◌, ◌↔◌, IsTrue}
use Rattle.std.specs.Cmp.Derive.{both_true}
use Rattle.std.proofs.Math.Nat.{mul-mod_left}
use Rattle.std.proofs.lemmas.Int.{ints}
use Rattle.std.proofs.lemmas.Bool.Decides.{nat_tests}
use Rattle.scaled_decimal.specs.Decimals.{Decimal, scale_of, numerator_of}
use Rattle.scaled_decimal.specs.Limits.{most_places}
use Rattle.scaled_decimal.specs.ExactQuotients.{IsPlainDivisor, Divides}
use Rattle.scaled_decimal.proofs.Laws.{plain_divisor as divisor_of_cofactor}
use Rattle.pap_types.specs.Kinds.{is_plain_number, is_plain_divisor}

parts_true : (s t : Bool) → (s && t) ≡ true → (s ≡ true) × (t ≡ true)
parts_true true t e = (refl, e)
parts_true false t e = absurd (cc)

cofactor_is : (x n : ℕ) → 0 < n → x % n ≡ 0 → (x / n) * n ≡ x
cofactor_is x n some none = omega arith

passed : (n : ℤ) → is_plain_number n ≡ true → IsPlainDivisor n
passed (pos n) e =
    let p = parts_true (nat_lt 0 n) ((10 ^ most_places) % n == 0) e in
    let some : 0 < n = (let f = p.0 in grind (arith, nat_tests)) in
    let none : (10 ^ most_places) % n ≡ 0 = (let f = p.1 in grind (arith, nat_tests)) in
    divisor_of_cofactor n ((10 ^ most_places) / n) (cofactor_is (10 ^ most_places) n some none)
passed (negsuc n) e = absurd (cc)

-- nothing is left of a power of ten at its divisor
left_over : (n x : ℕ) → 0 < n → Divides (pos n) (pos x) → x % n ≡ 0
left_over n x some (pos k, e) = let times : k * n ≡ x = omega (arith, ints) in rw (← times) (mul-mod_left k n)
left_over n x some (negsuc k, e) = absurd (omega (arith, ints))

passes : (n : ℤ) → IsPlainDivisor n → is_plain_number n ≡ true
passes (pos n) h =
    let some : 0 < n = (let p = h.positive in omega (arith, ints)) in
    let none : (10 ^ most_places) % n ≡ 0 = left_over n (10 ^ most_places) some h.divides in
    let above : nat_lt 0 n ≡ true = grind (arith, nat_tests) in
    let whole : ((10 ^ most_places) % n == 0) ≡ true = grind (arith, nat_tests) in
    both_true above whole
passes (negsuc n) h = absurd (let p = h.positive in omega (arith, ints))

-- a whole number passes where it is at least 1 and divides 10^30, and only there
pub plain_number : (n : ℤ) → (is_plain_number n ≡ true) ↔ IsPlainDivisor n
plain_number n = (passed n, passes n)

pub plain_divisor : (d : Decimal) → is_plain_divisor d ≡ true → IsPlainDivisor (numerator_of d)
plain_divisor d e =
    (plain_number (numerator_of d)).0 (parts_true (scale_of d == 0) (is_plain_number (numerator_of d)) e).1

-- what is true exactly at plain divisors is the test
pub same_test : (b : Bool) (n : ℤ) → IsTrue b ↔ IsPlainDivisor n → b ≡ is_plain_number n
same_test true n h = sym ((plain_number n).1 (h.0 refl))
same_test false n h = by_test (is_plain_number n) refl
  where
    by_test : (t : Bool) → is_plain_number n ≡ t → false ≡ is_plain_number n
    by_test true e = h.1 ((plain_number n).0 e) ∙ sym e
    by_test false e = sym e
