-- What the texts of literals spell as numbers.
use Rattle.std.proofs.Common.{◌≡◌, ℕ, ◌<◌, ◌^◌, Result, Ok, Err, List, [], ◌∷◌, ◌++◌, length, pos, refl, sym, ap, subst, ◌∙◌, arith}
use Rattle.std.specs.Prelude.{false, codes, ℤ, Option}
use Rattle.std.specs.Int.{w64, FitsUnsigned}
use Rattle.std.specs.Option.{SomeIff}
use Rattle.std.specs.Result.{OkIff, result_ok}
use Rattle.std.proofs.Math.IntN.{nat_abs}
use Rattle.std.proofs.lemmas.Int.{ints}
use Rattle.std.specs.Str.Parse.{digits_value}
use Rattle.std.proofs.lemmas.List.{append-nil}
use Rattle.scaled_decimal.specs.Decimals.{Decimal, decimal}
use Rattle.scaled_decimal.specs.Limits.{IsKept, IsWithinLimit}
use Rattle.scaled_decimal.specs.NumberTexts.{point_text, Spells}
use Rattle.pap_tree.specs.Tokens.{IsNumeral, IsPoint}

-- the whole number that a text spells
abbrev pub whole_of : List ℕ → Decimal
whole_of text = decimal (pos (digits_value 10 text)) 0

pub numeral_spells : (text : List ℕ) (n : ℕ) → IsNumeral text n → Spells text (whole_of text)
numeral_spells text n h = record {
  negative = false;
  whole = text;
  places = [];
  form = record { parts = sym (append-nil text); some = h.some; whole_digits = h.digits; place_digits = tt };
  value = ap (λ ds. decimal (pos (digits_value 10 ds)) 0) (sym (append-nil text));
}

point_is : (places : List ℕ) → 0 < length places → codes "." ++ places ≡ point_text places
point_is [] h = absurd (omega arith)
point_is (b ∷ bs) h = refl

pub point_spells : (text : List ℕ) (d : Decimal) → IsPoint text d → Spells text d
point_spells text d h = record {
  negative = false;
  whole = h.front;
  places = h.places;
  form = record {
    parts = h.parts ∙ ap (λ x. h.front ++ x) (point_is h.places h.some);
    some = h.numeral.some;
    whole_digits = h.numeral.digits;
    place_digits = h.digits;
  };
  value = h.value;
}

-- a numeral beyond the decimals is beyond 64 bits
pub beyond_bits : (text : List ℕ) → (IsKept (whole_of text) → ⊥) → digits_value 10 text < 2 ^ 64 → ⊥
beyond_bits text h less = h (record { numerator = small (digits_value 10 text) less; scale = omega arith })
  where
    small : (n : ℕ) → n < 2 ^ 64 → IsWithinLimit (pos n)
    small n h = omega arith

-- a whole number as 64 bits, if they hold it
pub in_64_bits : {E : Type 0} (r : Result ℕ E) (o : Option ℕ) (z : ℤ) (n : ℕ) → OkIff r (FitsUnsigned w64 z) (nat_abs z) → o ≡ result_ok r → z ≡ pos n → SomeIff o (n < 2 ^ 64) n
in_64_bits (Ok x) o z n h e p =
    let fits : FitsUnsigned w64 (pos n) = subst (FitsUnsigned w64) p h.0 in
    let same : x ≡ n = h.1 ∙ ap nat_abs p in
    subst (λ o. SomeIff o (n < 2 ^ 64) n) (sym e) (omega (arith, ints, fits.1), same)
in_64_bits (Err f) o z n h e p =
    subst (λ o. SomeIff o (n < 2 ^ 64) n) (sym e) (λ less. h (subst (FitsUnsigned w64) (sym p) (omega (arith, ints), omega (arith, ints, less))))
