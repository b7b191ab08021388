-- Numbers that digits write.
use Rattle.std.proofs.Common.{◌≡◌, ℕ, zero, suc, ◌<◌, ◌^◌, List, length, get_or, sym, ap, ◌∙◌, arith}
use Rattle.std.specs.Fmt.{decimal}
use Rattle.std.specs.Str.Parse.{AllDigits, IsNumeral, digits_value, without_leading_plus}
use Rattle.std.proofs.lemmas.Fmt.{decimal-digits_value, decimal_digit, first_decimal}
use Rattle.std.proofs.lemmas.Str.Parse.{numerals_by_value, tells_digits, without_leading_plus_none}
use Rattle.messages.specs.private.Cuts.{IsPlain}

-- plain digits that are read as a number are its digits
pub plain_number : (digits : List ℕ) (number : ℕ)
    → (IsNumeral 10 (without_leading_plus digits) × (digits_value 10 (without_leading_plus digits) < 2 ^ 64))
    × (number ≡ digits_value 10 (without_leading_plus digits)) → IsPlain digits → digits ≡ decimal number
plain_number digits number parsed plain =
    let same = without_leading_plus_none digits plain.unsigned in
    let all : (0 < length digits) × AllDigits 10 digits = rw same at parsed.0.0 in
    let small : digits_value 10 digits < 2 ^ 64 = rw same at parsed.0.1 in
    sym (decimal-digits_value (numerals_by_value (AllDigits 10) tells_digits) digits all.1 all.0 plain.first small)
    ∙ ap decimal (sym (parsed.1 ∙ ap (digits_value 10) same))

-- a number's digits are plain
pub decimal_plain : (number : ℕ) → number < 2 ^ 64 → IsPlain (decimal number)
decimal_plain zero small = record {
  unsigned = λ plus. let first = ap (λ l. get_or l 0 0) (decimal_digit 0 (omega arith)) in absurd (omega (arith, plus, first));
  first = λ none. ap length (decimal_digit 0 (omega arith));
}
decimal_plain (suc number) small =
    let above = first_decimal (suc number) (omega arith) small in
    record { unsigned = λ plus. absurd (omega (arith, plus, above)); first = λ none. absurd (omega (arith, none, above)) }
