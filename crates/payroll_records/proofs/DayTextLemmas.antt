-- What is printed of a month and a day.
use Rattle.std.proofs.Common.{◌≡◌, ℕ, ◌+◌, ◌-◌, ◌/◌, ◌%◌, ◌^◌, ◌<◌, ◌≤◌, List, [], ◌∷◌, ◌++◌, false, arith, ap, ◌∙◌, inl, inr, ℤ, pos, Bool, true, if◌then◌else◌}
use Rattle.std.specs.Fmt.{decimal, padded_integral, format_spec, char_count}
use Rattle.std.proofs.lemmas.Fmt.{decimal_digit, decimal_step}
use Rattle.std.proofs.lemmas.Bool.{cases_lt}
use Rattle.std.proofs.lemmas.Int.{ints}
use Rattle.jiff.specs.Words.{days_in_month}
use Rattle.payroll_records.specs.Days.{IsDay, two_digits}

two_places : (n : ℕ) → 10 ≤ n → n < 100 → decimal n ≡ two_digits n
two_places n large small = decimal_step n large (omega arith) ∙ ap (λ (ds : List ℕ). ds ++ ((48 + n % 10) ∷ [])) (decimal_digit (n / 10) (omega arith))

-- a number below 100 with a zero in front of a single digit
pub with_zero : (n : ℕ) → n < 100 → padded_integral (format_spec 32 0 4 2 (2 ^ 64 - 1)) false [] (decimal n) ≡ two_digits n
unfolding padded_integral char_count
with_zero n small = elim (cases_lt n 10) [
  | inl one ↦ let high : n / 10 ≡ 0 = omega arith in let low : n % 10 ≡ n = omega arith in rw (decimal_digit n one, high, low)
  | inr two ↦ rw (two_places n two small)
]

-- a number of four digits
pub four_places : (n : ℕ) → 1000 ≤ n → n < 10000 → decimal n ≡ two_digits (n / 100) ++ two_digits (n % 100)
four_places n large small =
    let front = two_places (n / 100) (omega arith) (omega arith) in
    let tens : n / 10 / 10 ≡ n / 100 = omega arith in
    let third : n / 10 % 10 ≡ n % 100 / 10 = omega arith in
    let last : n % 10 ≡ n % 100 % 10 = omega arith in
    rw (decimal_step n (omega arith) (omega arith), decimal_step (n / 10) (omega arith) (omega arith), tens, front, third, last)

either_below : (b : Bool) (x y : ℕ) → x < 100 → y < 100 → (if b then x else y) < 100
either_below true x y l r = l
either_below false x y l r = r

length_below_100 : (year : ℤ) (month : ℕ) → days_in_month year month < 100
length_below_100 year month = either_below _ _ _ (either_below _ 29 28 (omega arith) (omega arith)) (either_below _ 30 31 (omega arith) (omega arith))

-- a day's month and its number have two digits
pub day_below_100 : (year month day : ℕ) → IsDay year month day → (month < 100) × (day < 100)
day_below_100 year month day h =
    let most = length_below_100 (pos year) month in
    (omega (arith, ints, h.exists), omega (arith, ints, h.exists))
