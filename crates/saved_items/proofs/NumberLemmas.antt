-- Whole numbers in digits.
use Rattle.std.proofs.Common.{◌≡◌, ◌≢◌, ℕ, ◌<◌, ◌^◌, Result, Ok, List, [], ◌∷◌, length, map, get_or, ltb, false, arith, pos, ◌++◌, ◌/◌, ◌∙◌, ap, sym, refl, subst, inl, inr}
use Rattle.std.specs.Fmt.{decimal as number_text}
use Rattle.std.specs.Prelude.{Option, Err, MatchOption}
use Rattle.std.specs.Result.{result_ok}
use Rattle.std.specs.Int.Digits.{digits_of}
use Rattle.std.specs.Str.{IsUtf8}
use Rattle.std.specs.Str.Parse.{AllDigits, digits_value, ParsesUnsigned}
use Rattle.std.proofs.lemmas.List.{append-nil}
use Rattle.std.proofs.lemmas.Bool.{cases_lt}
use Rattle.std.proofs.lemmas.Bool.Decides.{nat_tests}
use Rattle.std.proofs.lemmas.Fmt.{IsAscii-decimal, decimal_digit, decimal-digits_of, decimal-digits_value, parse-decimal}
use Rattle.std.proofs.lemmas.Int.Digits.{first_digits_of}
use Rattle.std.proofs.lemmas.Str.{IsUtf8-from_ascii}
use Rattle.std.proofs.lemmas.Str.Parse.{IsNumeralModel, numerals_by_value, tells_digits, parse_plain}
use Rattle.std.proofs.Math.Nat.{div-one}
use Rattle.scaled_decimal.specs.NumberTexts.{sign_text, Spells}
use Rattle.scaled_decimal.specs.Decimals.{decimal, numerator_of}
use Rattle.scaled_decimal.specs.PlainTexts.{digit_byte, plain_text, whole_text}
use Rattle.scaled_decimal.proofs.Laws.{number_once, plain_text_spells, whole_some}
use Rattle.saved_items.specs.private.NumberViews.{BeginsNumber}

-- a whole number that isn't below 0 is its digits
pub whole_plain : (n : ℕ) → plain_text (decimal (pos n) 0) ≡ whole_text n
whole_plain n =
    let test : ltb n 0 ≡ false = grind (arith, nat_tests) in
    ap (λ negative. sign_text negative ++ (whole_text (n / 1) ++ [])) test
    ∙ append-nil (whole_text (n / 1))
    ∙ ap whole_text (div-one n)

pub whole_spells : (n : ℕ) → Spells (whole_text n) (decimal (pos n) 0)
whole_spells n = subst (λ t. Spells t (decimal (pos n) 0)) (whole_plain n) (plain_text_spells (decimal (pos n) 0))

pos_once : (m n : ℕ) → pos m ≡ pos n → m ≡ n
pos_once m n e = cc

-- two numbers of the same digits are equal
pub whole_once : (m n : ℕ) → whole_text m ≡ whole_text n → m ≡ n
whole_once m n e =
    pos_once m n (ap numerator_of (number_once (whole_text n) (decimal (pos m) 0) (decimal (pos n) 0)
    (subst (λ t. Spells t (decimal (pos m) 0)) e (whole_spells m)) (whole_spells n)))

-- the digits of 64 bits are those that std writes
whole_is : (n : ℕ) → n < 2 ^ 64 → whole_text n ≡ number_text n
whole_is n small = elim (cases_lt 0 n) [
  | inl some ↦ whole_some n some ∙ sym (decimal-digits_of n some small)
  | inr none ↦ (let e : n ≡ 0 = omega arith in rw e (sym (decimal_digit 0 (omega arith))))
]

-- digits are text
pub whole_utf8 : (n : ℕ) → n < 2 ^ 64 → IsUtf8 (whole_text n)
whole_utf8 n small =
    subst IsUtf8 (sym (whole_is n small)) (IsUtf8-from_ascii (number_text n) (IsAscii-decimal n small))

-- they begin with a digit, which is a zero only alone
pub whole_begins : (n : ℕ) → BeginsNumber (whole_text n)
whole_begins n = elim (cases_lt 0 n) [
  | inl some ↦ rw (whole_some n some) (begins (digits_of 10 n) (first_digits_of 10 n (omega arith) some))
  | inr none ↦ (
      let e : n ≡ 0 = omega arith in
      rw e (record { some = omega arith; no_plus = λ same. cc; no_zero = λ _. refl })
      )
]
  where
    begins : (ds : List ℕ) → 0 < get_or ds 0 0 → BeginsNumber (map digit_byte ds)
    begins [] first = absurd (omega (arith, first))
    begins (d ∷ ds) first = record {
      some = omega arith;
      no_plus = λ same. omega (arith, first, same);
      no_zero = λ same. absurd (omega (arith, first, same));
    }

own : IsNumeralModel (AllDigits 10) (digits_value 10)
own = numerals_by_value (AllDigits 10) tells_digits

-- digits are read as their number
whole_read : {E : Type 0} (word : List ℕ) (r : Result ℕ E) (n : ℕ) → ParsesUnsigned 64 10 word r → n < 2 ^ 64
    → word ≡ whole_text n → r ≡ Ok n
whole_read word r n parses small is = parse-decimal 64 n word r small small (is ∙ whole_is n small) parses

-- what is read is the digits of its number, where it begins as one
read_whole : (E : Type 0) (word : List ℕ) (n : ℕ) → ParsesUnsigned {E = E} 64 10 word (Ok n) → BeginsNumber word
    → word ≡ whole_text n
read_whole E word n parses begins = by (parse_plain own {E = E} 64 word (Ok n) parses begins.no_plus)
  where
    by : (AllDigits 10 word × (0 < length word) × (digits_value 10 word < 2 ^ 64)) × (n ≡ digits_value 10 word)
        → word ≡ whole_text n
    by ((digits, some, small), value) =
        let value_small : n < 2 ^ 64 = omega (arith, small, value) in
        sym (decimal-digits_value own word digits some begins.no_zero small) ∙ sym (ap number_text value)
        ∙ sym (whole_is n value_small)

-- a word that begins as a number is read as the number of which it is the digits
pub read_answer : {E : Type 0} (word text : List ℕ) (r : Result ℕ E) (o : Option ℕ) → text ≡ word
    → ParsesUnsigned 64 10 text r → BeginsNumber word → o ≡ result_ok r
    → MatchOption o ((n : ℕ) → n < 2 ^ 64 → word ≢ whole_text n) (λ n. word ≡ whole_text n)
read_answer {E = E} word text r o same parses begins is =
    subst (λ x. MatchOption x ((n : ℕ) → n < 2 ^ 64 → word ≢ whole_text n) (λ n. word ≡ whole_text n)) (sym is)
    (by r (subst (λ t. ParsesUnsigned 64 10 t r) same parses))
  where
    by : (r : Result ℕ E) → ParsesUnsigned 64 10 word r
        → MatchOption (result_ok r) ((n : ℕ) → n < 2 ^ 64 → word ≢ whole_text n) (λ n. word ≡ whole_text n)
    by (Ok n) parses = read_whole E word n parses begins
    by (Err e) parses = λ n small digits. (let clash = whole_read word (Err e) n parses small digits in cc)
