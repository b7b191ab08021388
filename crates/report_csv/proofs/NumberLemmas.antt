-- The plain text of a decimal without places.
use Rattle.std.proofs.Common.{◌≡◌, ℕ, suc, ◌<◌, ◌^◌, ℤ, pos, negsuc, unsigned_abs, int_lt, ltb, false, ◌/◌, [], ◌++◌, ◌∷◌, refl, sym, ap, ◌∙◌, inl, inr, arith}
use Rattle.std.specs.Fmt.{digits, signed_decimal}
use Rattle.std.specs.Fmt as fmt
use Rattle.std.proofs.lemmas.Bool.{cases_lt}
use Rattle.std.proofs.lemmas.Bool.Decides.{nat_tests}
use Rattle.std.proofs.lemmas.Fmt.{decimal-digits_of}
use Rattle.std.proofs.lemmas.List.{append-nil}
use Rattle.scaled_decimal.specs.Decimals.{decimal}
use Rattle.scaled_decimal.specs.NumberTexts.{sign_text}
use Rattle.scaled_decimal.specs.PlainTexts.{plain_text, whole_text}
use Rattle.scaled_decimal.proofs.Laws.{whole_some}

-- the digits of a whole number
whole_decimal : (n : ℕ) → n < 2 ^ 64 → whole_text n ≡ fmt.decimal n
unfolding digits
whole_decimal n small = elim (cases_lt 0 n) [
  | inl some ↦ whole_some n some ∙ sym (decimal-digits_of n some small)
  | inr none ↦ (let e : n ≡ 0 = omega arith in rw e refl)
]

no_sign : (n : ℕ) → int_lt (pos n) (pos 0) ≡ false
no_sign n = let none : ltb n 0 ≡ false = grind (arith, nat_tests) in none

whole_part : (n : ℕ) → n < 2 ^ 64 → fmt.decimal n ≡ whole_text (n / 1) ++ []
whole_part n small =
    let whole : n / 1 ≡ n = omega arith in
    sym (append-nil (whole_text (n / 1)) ∙ ap whole_text whole ∙ whole_decimal n small)

-- a whole number of 64 bits in digits is its plain text
pub whole_plain : (z : ℤ) → unsigned_abs z < 2 ^ 64 → signed_decimal z ≡ plain_text (decimal z 0)
whole_plain (pos n) small = whole_part n small ∙ ap (λ b. sign_text b ++ (whole_text (n / 1) ++ [])) (sym (no_sign n))
whole_plain (negsuc n) small = ap (λ t. 45 ∷ t) (whole_part (suc n) small)
