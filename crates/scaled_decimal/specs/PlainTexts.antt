-- The plain text of a decimal, as toPlainString of java.math.BigDecimal gives it: no exponent, and a digit after the
-- point for each place. Source: the documentation of java.math.BigDecimal (toPlainString).
use Rattle.std.specs.Prelude.{ℕ, zero, suc, ◌+◌, ◌/◌, ◌%◌, ◌^◌, ◌==◌, List, [], ◌∷◌, ◌++◌, map, codes, if◌then◌else◌, pos, int_lt, unsigned_abs}
use Rattle.std.specs.Int.Digits.{digits_of}
use Rattle.scaled_decimal.specs.Decimals.{Decimal, numerator_of, scale_of}
use Rattle.scaled_decimal.specs.NumberTexts.{sign_text, point_text, Spells}

-- the byte of a digit below ten
abbrev pub digit_byte : ℕ → ℕ
digit_byte digit = 48 + digit

-- a whole number in digits, without leading zeros: 0 is one digit
abbrev pub whole_text : ℕ → List ℕ
whole_text n = if n == 0 then codes "0" else map digit_byte (digits_of 10 n)

-- the last so many digits of a number, leading zeros among them
abbrev pub last_digits : ℕ → ℕ → List ℕ
last_digits zero n = []
last_digits (suc k) n = digit_byte (n / 10 ^ k % 10) ∷ last_digits k n

-- a - where the decimal is below 0, the whole part in digits, and a point with the places, where there are any
abbrev pub plain_text : Decimal → List ℕ
plain_text d =
    let n = unsigned_abs (numerator_of d) in
    sign_text (int_lt (numerator_of d) (pos 0)) ++ (whole_text (n / 10 ^ scale_of d) ++ point_text (last_digits (scale_of d) n))

-- the plain text of each decimal spells that decimal
abbrev pub EachPlainTextSpellsItsDecimal : Type 0
EachPlainTextSpellsItsDecimal = (d : Decimal) → Spells (plain_text d) d
