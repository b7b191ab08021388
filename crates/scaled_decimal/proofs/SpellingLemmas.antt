-- The plain text of a decimal spells it.
use Rattle.std.proofs.Common.{◌≡◌, ℕ, zero, suc, ◌+◌, ◌*◌, ◌/◌, ◌%◌, ◌^◌, ◌<◌, false, ltb, List, [], ◌∷◌, ◌++◌, length, map, ℤ, pos, negsuc, unsigned_abs, int_lt, refl, sym, ap, ap₂, ◌∙◌, inl, inr, arith}
use Rattle.std.specs.Char.{digit_value}
use Rattle.std.specs.Int.Digits.{digits_of, AllBelowBase, number_from_digits}
use Rattle.std.specs.Str.Parse.{AllDigits, digits_value, digits_value_after}
use Rattle.std.proofs.lemmas.Bool.Decides.{nat_tests}
use Rattle.std.proofs.lemmas.Str.{digit_value_digit}
use Rattle.std.proofs.lemmas.List.{length-map}
use Rattle.std.proofs.lemmas.Bool.{cases_lt}
use Rattle.std.proofs.lemmas.Int.Digits.{digits_value_is, all_below_base_digits_of, number_digits_of, length-digits_of_step}
use Rattle.std.proofs.Math.Nat.{pow-suc, one-le-pow, mul_comm}
use Rattle.std.proofs.Math.Arith.{mod-mul}
use Rattle.std.proofs.lemmas.Nat.{div-add-mod'}
use Rattle.scaled_decimal.specs.Decimals.{Decimal, decimal, numerator_of, scale_of}
use Rattle.scaled_decimal.specs.NumberTexts.{signed, Spells}
use Rattle.scaled_decimal.specs.PlainTexts.{digit_byte, whole_text, last_digits, plain_text}
use Rattle.scaled_decimal.proofs.DigitLemmas.{digits_value_after-append}
use Rattle.scaled_decimal.proofs.PlainLemmas.{length-last_digits, whole_some}

digit_value_byte : (x : ℕ) → x < 10 → digit_value (digit_byte x) ≡ x
digit_value_byte x small = let e = digit_value_digit (48 + x) (omega arith, omega arith) in omega arith

pub digits_last : (k n : ℕ) → AllDigits 10 (last_digits k n)
digits_last zero n = tt
digits_last (suc k) n = (let e = digit_value_byte (n / 10 ^ k % 10) (omega arith) in omega arith, digits_last k n)

shifted : (v a p r : ℕ) → (v * 10 + a) * p + r ≡ v * (10 * p) + (a * p + r)
shifted v a p r = grind arith

value_last : (k n v : ℕ) → digits_value_after 10 v (last_digits k n) ≡ v * 10 ^ k + n % 10 ^ k
value_last zero n v = omega arith
value_last (suc k) n v =
    let e = digit_value_byte (n / 10 ^ k % 10) (omega arith) in
    let rest = value_last k n (v * 10 + digit_value (digit_byte (n / 10 ^ k % 10))) in
    let some = one-le-pow k 10 (omega arith) in
    let split : n % (10 * 10 ^ k) ≡ n / 10 ^ k % 10 * 10 ^ k + n % 10 ^ k = mod-mul n {m = 10} {c = 10 ^ k} (omega arith) some in
    let power : 10 * 10 ^ k ≡ 10 ^ suc k = mul_comm 10 (10 ^ k) ∙ sym (pow-suc 10 k) in
    rest ∙ ap (λ x. (v * 10 + x) * 10 ^ k + n % 10 ^ k) e ∙ shifted v (n / 10 ^ k % 10) (10 ^ k) (n % 10 ^ k) ∙ ap (λ x. v * (10 * 10 ^ k) + x) (sym split) ∙ ap (λ p. v * p + n % p) power

bytes_below : (ds : List ℕ) → AllBelowBase 10 ds → AllDigits 10 (map digit_byte ds)
bytes_below [] h = tt
bytes_below (d ∷ ds) h = (let e = digit_value_byte d h.0 in omega (arith, h.0), bytes_below ds h.1)

bytes_back : (ds : List ℕ) → AllBelowBase 10 ds → map digit_value (map digit_byte ds) ≡ ds
bytes_back [] h = refl
bytes_back (d ∷ ds) h = ap₂ (λ x xs. x ∷ xs) (digit_value_byte d h.0) (bytes_back ds h.1)

pub value_whole : (n : ℕ) → digits_value 10 (whole_text n) ≡ n
value_whole n = elim (cases_lt 0 n) [
  | inl some ↦
      let below = all_below_base_digits_of 10 n (omega arith) in
      rw (whole_some n some) (digits_value_is 10 (map digit_byte (digits_of 10 n)) ∙ ap (λ ds. number_from_digits 10 ds) (bytes_back (digits_of 10 n) below) ∙ number_digits_of 10 n (omega arith))
  | inr none ↦ (let e : n ≡ 0 = omega arith in rw e refl)
]

pub digits_whole : (n : ℕ) → AllDigits 10 (whole_text n)
digits_whole n = elim (cases_lt 0 n) [
  | inl some ↦ rw (whole_some n some) (bytes_below (digits_of 10 n) (all_below_base_digits_of 10 n (omega arith)))
  | inr none ↦ (let e : n ≡ 0 = omega arith in rw e (omega arith, tt))
]

pub some_whole : (n : ℕ) → 0 < length (whole_text n)
some_whole n = elim (cases_lt 0 n) [
  | inl some ↦ rw (whole_some n some) (let more = length-digits_of_step 10 n (omega arith) some in let same = length-map (digits_of 10 n) digit_byte in omega arith)
  | inr none ↦ (let e : n ≡ 0 = omega arith in rw e (omega arith))
]

signed_back : (z : ℤ) → signed (int_lt z (pos 0)) (unsigned_abs z) ≡ z
signed_back (pos n) = let test : ltb n 0 ≡ false = grind (arith, nat_tests) in ap (λ b. signed b n) test
signed_back (negsuc n) = refl

-- all digits together are the magnitude
pub value_all : (n s : ℕ) → digits_value 10 (whole_text (n / 10 ^ s) ++ last_digits s n) ≡ n
value_all n s =
    let some = one-le-pow s 10 (omega arith) in
    digits_value_after-append (whole_text (n / 10 ^ s)) (last_digits s n) 0
    ∙ ap (λ v. digits_value_after 10 v (last_digits s n)) (value_whole (n / 10 ^ s))
    ∙ value_last s n (n / 10 ^ s)
    ∙ div-add-mod' n (10 ^ s)

pub plain_text_spells : (d : Decimal) → Spells (plain_text d) d
plain_text_spells d =
    let n = unsigned_abs (numerator_of d) in
    let s = scale_of d in
    record {
      negative = int_lt (numerator_of d) (pos 0);
      whole = whole_text (n / 10 ^ s);
      places = last_digits s n;
      form = record { parts = refl; some = some_whole (n / 10 ^ s); whole_digits = digits_whole (n / 10 ^ s); place_digits = digits_last s n };
      value = ap₂ decimal (sym (ap (λ v. signed (int_lt (numerator_of d) (pos 0)) v) (value_all n s) ∙ signed_back (numerator_of d))) (sym (length-last_digits s n));
    }
