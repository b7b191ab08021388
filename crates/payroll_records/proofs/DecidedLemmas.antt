-- It is decided whether a row's fields are an employee, a month and a day in it, and which number a cell spells.
use Rattle.std.proofs.Common.{◌≡◌, ℕ, ◌≤◌, List, [], ◌∷◌, Bool, true, false, pos, refl, sym, ◌∙◌, subst, arith, ◌⊎◌, inl, inr}
use Rattle.std.specs.Prelude.{IsTrue}
use Rattle.std.specs.Str.{bytes_eq}
use Rattle.std.proofs.lemmas.Bool.{cases_lt, cases_eq, false≢true}
use Rattle.std.proofs.lemmas.Int.{ints}
use Rattle.std.proofs.lemmas.Slice.Eq.{bytes_eq-Decides}
use Rattle.jiff.specs.Words.{days_in_month}
use Rattle.scaled_decimal.specs.Decimals.{Decimal}
use Rattle.scaled_decimal.specs.Limits.{IsKept, limit, most_places}
use Rattle.scaled_decimal.proofs.Laws.{number_once, number_or_none}
use Rattle.payroll_records.specs.Days.{IsMonth, IsDay, IsMonthText, IsDayText, IsMonthSpelled, IsDaySpelled, month_text, day_text}
use Rattle.payroll_records.specs.Tables.{Text, HasDay, IsNumberText, IsReadable, field_of}
use Rattle.payroll_records.proofs.SpellingLemmas.{year_of, month_of, day_of, months_spell, days_spell}

abbrev pub Decided : Type 0 → Type 0
Decided P = P ⊎ (P → ⊥)

pub both : {P Q : Type 0} → Decided P → Decided Q → Decided (P × Q)
both (inl p) (inl q) = inl (p, q)
both (inl p) (inr n) = inr (λ h. n h.1)
both (inr n) q = inr (λ h. n h.0)

pub by_iff : {P Q : Type 0} → (P → Q) → (Q → P) → Decided P → Decided Q
by_iff to from (inl p) = inl (to p)
by_iff to from (inr n) = inr (λ q. n (from q))

pub le_decided : (m n : ℕ) → Decided (m ≤ n)
le_decided m n = elim (cases_lt n m) [ inl more ↦ inr (λ h. omega arith) | inr le ↦ inl le ]

pub eq_decided : (m n : ℕ) → Decided (m ≡ n)
eq_decided m n = cases_eq m n

pub true_decided : (b : Bool) → Decided (IsTrue b)
true_decided true = inl refl
true_decided false = inr (λ h. false≢true h)

pub text_decided : (a b : Text) → Decided (a ≡ b)
text_decided a b = by (bytes_eq a b) refl
  where
    by : (t : Bool) → bytes_eq a b ≡ t → Decided (a ≡ b)
    by true e = inl ((bytes_eq-Decides a b).0 e)
    by false e = inr (λ same. false≢true (sym e ∙ (bytes_eq-Decides a b).1 same))

is_month : (year month : ℕ) → Decided (IsMonth year month)
is_month year month =
    by_iff (λ h. record { years = h.0; from = h.1.0; to = h.1.1 }) (λ h. (h.years, (h.from, h.to)))
    (both (both (le_decided 1900 year) (le_decided year 2999)) (both (le_decided 1 month) (le_decided month 12)))

is_day : (year month day : ℕ) → Decided (IsDay year month day)
is_day year month day =
    by_iff (λ h. record { years = h.0; exists = ((omega (arith, ints, h.0.1), omega (arith, ints)), (omega (arith, ints, h.1.0.0), omega (arith, ints, h.1.0.1)), (omega (arith, ints, h.1.1.0), omega (arith, ints, h.1.1.1))) })
    (λ h. (h.years, ((omega (arith, ints, h.exists.1), omega (arith, ints, h.exists.1)), (omega (arith, ints, h.exists.2), omega (arith, ints, h.exists.2)))))
    (both (both (le_decided 1900 year) (le_decided year 2999))
    (both (both (le_decided 1 month) (le_decided month 12)) (both (le_decided 1 day) (le_decided day (days_in_month (pos year) month)))))

month_text_at : (t : Text) (year month : ℕ) → Decided (IsMonthText t year month)
month_text_at t year month =
    by_iff (λ h. record { exists = h.0; written = h.1 }) (λ h. (h.exists, h.written)) (both (is_month year month) (text_decided t (month_text year month)))

day_text_at : (t : Text) (year month day : ℕ) → Decided (IsDayText t year month day)
day_text_at t year month day =
    by_iff (λ h. record { exists = h.0; written = h.1 }) (λ h. (h.exists, h.written)) (both (is_day year month day) (text_decided t (day_text year month day)))

the_month : (t : Text) (year month : ℕ) → IsMonthText t year month → IsMonthText t (year_of t) (month_of t)
the_month t year month h = let e = months_spell t year month h in rw (← e.0, ← e.1) h

the_day : (t : Text) (year month day : ℕ) → IsDayText t year month day → IsDayText t (year_of t) (month_of t) (day_of t)
the_day t year month day h = let e = days_spell t year month day h in rw (← e.0, ← e.1, ← e.2) h

pub month_decided : (t : Text) → Decided (IsMonthSpelled t)
month_decided t = by_iff (λ h. (year_of t, month_of t, h)) (λ h. the_month t h.0 h.1 h.2) (month_text_at t (year_of t) (month_of t))

pub day_spelled_decided : (t : Text) → Decided (IsDaySpelled t)
day_spelled_decided t = by_iff (λ h. (year_of t, month_of t, day_of t, h)) (λ h. the_day t h.0 h.1 h.2 h.3) (day_text_at t (year_of t) (month_of t) (day_of t))

pub day_decided : (row : List Text) → Decided (HasDay row)
day_decided row =
    by_iff
    (λ h. (year_of day, month_of day, day_of day, h))
    (λ h.
    let e = days_spell day h.0 h.1 h.2 h.3.0 in
    (the_day day h.0 h.1 h.2 h.3.0, rw (← e.0, ← e.1) h.3.1))
    (both (day_text_at day (year_of day) (month_of day) (day_of day)) (month_text_at month (year_of day) (month_of day)))
  where
    day : Text
    day = field_of row 2

    month : Text
    month = field_of row 1

-- a text spells a number that is kept, and no other, or none
abbrev pub NumberOrNone : Text → Type 0
NumberOrNone t = ((d : Decimal) × IsNumberText t d) ⊎ ((d : Decimal) → IsNumberText t d → ⊥)

kept_decided : (d : Decimal) → Decided (IsKept d)
kept_decided d =
    by_iff (λ h. record { numerator = h.0; scale = h.1 }) (λ h. (h.numerator, h.scale)) (both (le_decided _ limit) (le_decided _ most_places))

pub number_decided : (t : Text) → NumberOrNone t
number_decided t = elim (number_or_none t) [
  | inl number ↦ elim (kept_decided number.0) [
    | inl kept ↦ inl (number.0, (number.1, kept))
    | inr wide ↦ inr (λ d h. wide (subst IsKept (number_once t d number.0 h.0 number.1) h.1))
  ]
  | inr none ↦ inr (λ d h. none d h.0)
]

pub readable_decided : (t : Text) → Decided (IsReadable t)
readable_decided [] = inl (inl refl)
readable_decided (b ∷ bs) = elim (number_decided (b ∷ bs)) [
  | inl number ↦ inl (inr number)
  | inr none ↦ inr (λ h. elim h [ inl empty ↦ cc empty | inr number ↦ none number.0 number.1 ])
]
