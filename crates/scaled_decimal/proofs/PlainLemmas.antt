-- The digits of plain texts.
use Rattle.std.proofs.Common.{◌≡◌, ℕ, zero, suc, ◌+◌, ◌/◌, ◌%◌, ◌^◌, ◌<◌, ◌≤◌, nat_eq, cond, false, List, [], ◌∷◌, ◌++◌, length, map, add-one, append_assoc, refl, sym, ap, ◌∙◌, arith}
use Rattle.std.specs.Int.Digits.{digits_of}
use Rattle.std.proofs.lemmas.Bool.Decides.{nat_tests}
use Rattle.std.proofs.lemmas.List.{map-append}
use Rattle.std.proofs.lemmas.Int.Digits.{digits_of_step, length-digits_of-le}
use Rattle.std.proofs.Math.Nat.{div-div-eq-div-mul, pow-suc}
use Rattle.scaled_decimal.specs.PlainTexts.{digit_byte, whole_text, last_digits}

pub length-last_digits : (k n : ℕ) → length (last_digits k n) ≡ k
length-last_digits zero n = refl
length-last_digits (suc k) n = ap suc (length-last_digits k n)

-- one digit more in front
pub last_digits_more : (k n : ℕ) → last_digits (k + 1) n ≡ digit_byte (n / 10 ^ k % 10) ∷ last_digits k n
last_digits_more k n = rw add-one refl

pub quotient_more : (k n : ℕ) → n / 10 ^ k / 10 ≡ n / 10 ^ (k + 1)
quotient_more k n = rw add-one (div-div-eq-div-mul n (10 ^ k) 10 ∙ ap (λ p. n / p) (sym (pow-suc 10 k)))

-- the last digit of a whole number, and those before it
pub whole_more : (n : ℕ) (after : List ℕ) → 0 < n → map digit_byte (digits_of 10 n) ++ after ≡ map digit_byte (digits_of 10 (n / 10)) ++ (digit_byte (n % 10) ∷ after)
whole_more n after some =
    ap (λ ds. map digit_byte ds ++ after) (digits_of_step 10 n (omega arith) some)
    ∙ ap (λ ds. ds ++ after) (map-append digit_byte (digits_of 10 (n / 10)) (n % 10 ∷ []))
    ∙ append_assoc (map digit_byte (digits_of 10 (n / 10))) (digit_byte (n % 10) ∷ []) after

pub whole_some : (n : ℕ) → 0 < n → whole_text n ≡ map digit_byte (digits_of 10 n)
whole_some n some = let test : nat_eq n 0 ≡ false = grind (arith, nat_tests) in ap (λ b. cond b (48 ∷ []) (map digit_byte (digits_of 10 n))) test

-- a number of 128 bits has at most 39 digits
pub few_digits : (n : ℕ) → n < 2 ^ 128 → length (digits_of 10 n) ≤ 39
few_digits n small = length-digits_of-le 10 39 n (omega arith) (omega arith)
