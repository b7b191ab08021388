-- The laws of decimals that other crates may cite: a text spells at most one decimal, and it is decided whether it spells one;
-- an operation that rounds or shortens gives exactly what its function gives. The others are shown in the files that they are
-- taken from.
use Rattle.std.proofs.Common.{◌≡◌, ◌≢◌, ℕ, ◌+◌, ◌^◌, ◌<◌, Bool, true, false, ℤ, pos, negsuc, ◌*ℤ◌, ◌≤ℤ◌, int_div, List, [], ◌∷◌, length, refl, sym, ap, ◌∙◌, arith, ◌⊎◌, inl, inr}
use Rattle.std.specs.Char.{digit_value}
use Rattle.std.proofs.lemmas.Bool.{cases_lt, cases_eq}
use Rattle.std.proofs.lemmas.Int.{ints}
use Rattle.scaled_decimal.specs.declared.rounding.Mode.{Mode}
use Rattle.scaled_decimal.specs.Decimals.{Decimal, decimal, numerator_of, scale_of, ten_to, IsRescaled, IsQuotient}
use Rattle.scaled_decimal.specs.ExactQuotients.{IsPlainDivisor, IsExactQuotient}
use Rattle.scaled_decimal.specs.Limits.{most_places}
use Rattle.scaled_decimal.specs.RoundedDecimals.{quotient, rescaled}
use Rattle.scaled_decimal.specs.RoundedDecimals.{quotient_is, rescaled_is}
use Rattle.scaled_decimal.specs.ShortenedDecimals.{exact_quotient}
use Rattle.scaled_decimal.proofs.ExactLemmas.{shortened_quotient}
use Rattle.scaled_decimal.specs.NumberTexts.{spelled, Spells, SpellsNone}
use Rattle.scaled_decimal.specs.private.TextParts.{IsSignSplit, IsDigitSplit}
use Rattle.scaled_decimal.proofs.NumberLemmas.{spells, spells_once, ends_at_sign, ends_at_point, ends_in_places, whole_number, number_with_places}
-- powers of ten: up to 10^37, above 0, multiplied
pub use Rattle.scaled_decimal.proofs.PowerLemmas.{power_le, power_bound, ten_some, ten_not_zero, ten_add}
-- products of whole numbers
pub use Rattle.scaled_decimal.specs.laws.IntegerLemmas.{times_more, times_less, times_neg, times_neg_right, times_sub, times_assoc, times_swap, times_zero, times_cancel, le_times, lt_times, by_sign, some_abs, abs_sub}
-- roundings: less than one from the quotient, rising with it, exactly one, and no greater than the dividend
pub use Rattle.scaled_decimal.specs.laws.RoundingLaws.{rounds_near, rounds_rising, rounds_exactly_one}
pub use Rattle.scaled_decimal.proofs.FitLemmas.{abs_rounded}
-- the order of the values is that of the numerators at the greater scale
pub use Rattle.scaled_decimal.proofs.OrderLemmas.{aligned_order}
-- the working numbers of setScale and divide fit where the lengthened numbers do
pub use Rattle.scaled_decimal.proofs.FitLemmas.{rescale_fits, rescale_fits_longer, rescale_fits_shorter, rescale_fits_at, quotient_fits_longer, quotient_fits_shorter}
-- plain divisors, the cofactor of one, and the working numbers of the exact quotient: for the least power of ten, and for any
pub use Rattle.scaled_decimal.proofs.FitLemmas.{plain_divisor, exact_fits_least, exact_fits}
pub use Rattle.scaled_decimal.proofs.ExactLemmas.{factor_times}
-- the same value without the zeros that end it, and that there is one
pub use Rattle.scaled_decimal.proofs.ShortenedLemmas.{shortened_is, shortened_only}
-- digits and plain texts
pub use Rattle.scaled_decimal.proofs.DigitLemmas.{digits_value_after-append}
pub use Rattle.scaled_decimal.proofs.PlainLemmas.{length-last_digits, whole_some}
pub use Rattle.scaled_decimal.proofs.SpellingLemmas.{digits_last, digits_whole, some_whole, value_whole, value_all, plain_text_spells}

-- a text spells at most one decimal
pub number_once : (text : List ℕ) (d d' : Decimal) → Spells text d → Spells text d' → d ≡ d'
number_once text d d' s s' =
    let value = s.value in
    let other = spells_once text s.negative s.whole s.places d' s.form s' in
    cc

record SignSplit (text : List ℕ) : Type 0 where
  negative : Bool
  rest : List ℕ
  split : IsSignSplit text negative rest

record DigitSplit (text : List ℕ) : Type 0 where
  front : List ℕ
  rest : List ℕ
  split : IsDigitSplit text front rest

sign_split : (text : List ℕ) → SignSplit text
sign_split [] = record { negative = false; rest = []; split = record { parts = refl; minus = λ _ rest e. cc e } }
sign_split (b ∷ bs) = elim (cases_eq b 45) [
  | inl same ↦ record { negative = true; rest = bs; split = record { parts = ap (λ x. x ∷ bs) same; minus = λ e. absurd (cc e) } }
  | inr other ↦ record { negative = false; rest = b ∷ bs; split = record { parts = refl; minus = λ _ rest e. other (cc e) } }
]

digit_split : (text : List ℕ) → DigitSplit text
digit_split [] = record { front = []; rest = []; split = record { parts = refl; digits = tt; stops = tt } }
digit_split (b ∷ bs) = elim (cases_lt (digit_value b) 10) [
  | inl digit ↦
      let more = digit_split bs in
      record { front = b ∷ more.front; rest = more.rest; split = record { parts = ap (λ l. b ∷ l) more.split.parts; digits = (digit, more.split.digits); stops = more.split.stops } }
  | inr other ↦ record { front = []; rest = b ∷ bs; split = record { parts = refl; digits = tt; stops = other } }
]

Decided : List ℕ → Type 0
Decided text = ((d : Decimal) × Spells text d) ⊎ SpellsNone text

places_decided : (text rest : List ℕ) (neg : Bool) (whole after fraction : List ℕ) → IsSignSplit text neg rest → IsDigitSplit rest whole after → 0 < length whole → after ≡ 46 ∷ fraction → DigitSplit fraction → Decided text
unfolding Decided
places_decided text rest neg whole after fraction s d some point p = elim (cases_lt 0 (length p.front)) [
  | inl more ↦ elim (cases_lt 0 (length p.rest)) [
    | inl left ↦ inr (ends_in_places text rest neg whole after fraction p.front p.rest s d some point p.split (λ _. left)).0
    | inr none ↦ inl (spelled neg whole p.front, spells text neg whole p.front (number_with_places text rest neg whole after fraction p.front p.rest s d some point p.split more (omega arith)))
  ]
  | inr none ↦ inr (ends_in_places text rest neg whole after fraction p.front p.rest s d some point p.split (λ h. absurd (omega arith))).0
]

after_decided : (text rest : List ℕ) (neg : Bool) (whole after : List ℕ) → IsSignSplit text neg rest → IsDigitSplit rest whole after → 0 < length whole → Decided text
unfolding Decided
after_decided text rest neg whole [] s d some = inl (spelled neg whole [], spells text neg whole [] (whole_number text rest neg whole [] s d some refl))
after_decided text rest neg whole (b ∷ bs) s d some = elim (cases_eq b 46) [
  | inl same ↦ places_decided text rest neg whole (b ∷ bs) bs s d some (ap (λ x. x ∷ bs) same) (digit_split bs)
  | inr other ↦ inr (ends_at_point text rest neg whole (b ∷ bs) s d some (omega arith) (λ more e. other (cc e))).0
]

pub number_or_none : (text : List ℕ) → ((d : Decimal) × Spells text d) ⊎ SpellsNone text
unfolding Decided
number_or_none text =
    let sign = sign_split text in
    let digits = digit_split sign.rest in
    elim (cases_lt 0 (length digits.front)) [
      | inl some ↦ after_decided text sign.rest sign.negative digits.front digits.rest sign.split digits.split some
      | inr none ↦ inr (ends_at_sign text sign.rest sign.negative digits.front digits.rest sign.split digits.split (omega arith)).0
    ]

pub exact_quotient_is : (a : Decimal) (d : ℤ) → IsPlainDivisor d → IsExactQuotient a d (exact_quotient a d)
exact_quotient_is a d h =
    let c = int_div (ten_to most_places) d in
    shortened_quotient a d c most_places (exact_quotient a d) h.positive
    (factor_times d (ten_to most_places) most_places h.positive refl h.divides)
    (shortened_is (scale_of a) (decimal (numerator_of a *ℤ c) (scale_of a + most_places)) (omega arith))

same_parts : (d e : Decimal) → numerator_of d ≡ numerator_of e → scale_of d ≡ scale_of e → d ≡ e
same_parts d e f g = ap (λ n. decimal n (scale_of d)) f ∙ ap (λ s. decimal (numerator_of e) s) g

power_not_zero : (k : ℕ) → ten_to k ≢ pos 0
power_not_zero k e = let some = ten_some k in omega (arith, ints)

-- a divisor of at least 1 cancels
divisor_cancels : (x y n : ℤ) → pos 1 ≤ℤ n → x *ℤ n ≡ y *ℤ n → x ≡ y
divisor_cancels x y (pos k) h e = times_cancel x y k (omega (arith, ints)) e
divisor_cancels x y (negsuc k) h e = absurd (omega (arith, ints))

exact_once : (a : Decimal) (n : ℤ) (d e : Decimal) → IsPlainDivisor n → IsExactQuotient a n d → IsExactQuotient a n e → d ≡ e
exact_once a n d e plain f g =
    let below = f.least e g.scale g.exact in
    let above = g.least d f.scale f.exact in
    let scales : scale_of d ≡ scale_of e = omega arith in
    let same : (numerator_of d *ℤ n) *ℤ ten_to (scale_of a) ≡ (numerator_of e *ℤ n) *ℤ ten_to (scale_of a) =
    f.exact ∙ ap (λ s. numerator_of a *ℤ ten_to s) scales ∙ sym g.exact in
    same_parts d e (divisor_cancels (numerator_of d) (numerator_of e) n plain.positive (times_cancel (numerator_of d *ℤ n) (numerator_of e *ℤ n) (10 ^ scale_of a) (ten_some (scale_of a)) same)) scales

-- what is the exact quotient is the function's value
pub exact_quotient_only : (a : Decimal) (n : ℤ) (d : Decimal) → IsPlainDivisor n → IsExactQuotient a n d → d ≡ exact_quotient a n
exact_quotient_only a n d plain f = exact_once a n d (exact_quotient a n) plain f (exact_quotient_is a n plain)

-- what is the rounded value is the function's value
pub rescaled_only : (mode : Mode) (s : ℕ) (a d : Decimal) → IsRescaled mode a s d → d ≡ rescaled mode s a
rescaled_only mode s a d f =
    let g = rescaled_is mode s a in
    let one = (rounds_exactly_one mode (numerator_of a *ℤ ten_to s) (ten_to (scale_of a)) (power_not_zero (scale_of a))).one in
    same_parts d (rescaled mode s a) (one (numerator_of d) (numerator_of (rescaled mode s a)) f.rounded g.rounded) (f.scale ∙ sym g.scale)

-- what is the rounded quotient is the function's value
pub quotient_only : (mode : Mode) (s : ℕ) (a b d : Decimal) → numerator_of b ≢ pos 0 → IsQuotient mode a b s d → d ≡ quotient mode s a b
quotient_only mode s a b d some f =
    let g = quotient_is mode s a b some in
    let divisor : numerator_of b *ℤ ten_to (scale_of a) ≢ pos 0 =
    λ z. some (times_zero (numerator_of b) (10 ^ scale_of a) (ten_some (scale_of a)) z) in
    let one = (rounds_exactly_one mode (numerator_of a *ℤ ten_to (s + scale_of b)) (numerator_of b *ℤ ten_to (scale_of a)) divisor).one in
    same_parts d (quotient mode s a b) (one (numerator_of d) (numerator_of (quotient mode s a b)) f.rounded g.rounded) (f.scale ∙ sym g.scale)
