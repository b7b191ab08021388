-- What the texts of months and days spell: the year, the month and the day that a text is written from.
use Rattle.std.proofs.Common.{◌≡◌, ℕ, zero, suc, ◌+◌, ◌*◌, ◌-◌, ◌/◌, ◌%◌, ◌<◌, [], ◌∷◌, ◌++◌, length, drop, get_or, refl, sym, ap, ap₂, ◌∙◌, subst, arith}
use Rattle.std.specs.Prelude.{slice_index, IfSome, Option, Some, None}
use Rattle.std.proofs.Math.Bridge.{le_prop}
use Rattle.std.proofs.Math.Dec.{T_prop}
use Rattle.std.proofs.Math.Seq.{drop-cons}
use Rattle.std.proofs.lemmas.List.{drop_all}
use Rattle.payroll_records.specs.Days.{IsMonth, IsDay, IsMonthText, IsDayText, IsDaySpelled, two_digits, month_text, day_text}
use Rattle.payroll_records.specs.Tables.{Text}
use Rattle.payroll_records.specs.declared.day.Day.{Day}
use Rattle.payroll_records.specs.declared.month.Month.{Month}
use Rattle.payroll_records.specs.declared.when.When.{When}
use Rattle.payroll_records.specs.declared.when.When.TheVariants as when
use Rattle.payroll_records.specs.Whens.{IsWhenText, when_text}

spelled : ℕ → ℕ → ℕ
spelled a b = 10 * (a - 48) + (b - 48)

-- the year and the month that the first seven bytes of a text spell, and the day behind them
pub year_of : Text → ℕ
year_of t = 100 * spelled (slice_index t 0) (slice_index t 1) + spelled (slice_index t 2) (slice_index t 3)

pub month_of : Text → ℕ
month_of t = spelled (slice_index t 5) (slice_index t 6)

pub day_of : Text → ℕ
day_of t = spelled (slice_index t 8) (slice_index t 9)

two_spelled : (n : ℕ) → n ≡ spelled (48 + n / 10) (48 + n % 10)
unfolding spelled
two_spelled n = omega arith

four_spelled : (n c d : ℕ) → n / 100 ≡ c → n % 100 ≡ d → n ≡ 100 * c + d
four_spelled n c d e f = omega arith

-- the text of a month is written from one year and one month
year_written : (year month : ℕ) (rest : Text) → year ≡ year_of (month_text year month ++ rest)
unfolding year_of
year_written year month rest = four_spelled year _ _ (two_spelled (year / 100)) (two_spelled (year % 100))

month_written : (year month : ℕ) (rest : Text) → month ≡ month_of (month_text year month ++ rest)
unfolding month_of
month_written year month rest = two_spelled month

day_written : (year month day : ℕ) → day ≡ day_of (day_text year month day)
unfolding day_of
day_written year month day = two_spelled day

-- a day is known by how it is written
pub written_once : (y m d y' m' d' : ℕ) → day_text y m d ≡ day_text y' m' d' → (y ≡ y') × (m ≡ m') × (d ≡ d')
written_once y m d y' m' d' e = (
  year_written y m (45 ∷ two_digits d) ∙ ap year_of e ∙ sym (year_written y' m' (45 ∷ two_digits d')),
  month_written y m (45 ∷ two_digits d) ∙ ap month_of e ∙ sym (month_written y' m' (45 ∷ two_digits d')),
  day_written y m d ∙ ap day_of e ∙ sym (day_written y' m' d'),
)

pub months_spell : (t : Text) (year month : ℕ) → IsMonthText t year month → (year ≡ year_of t) × (month ≡ month_of t)
months_spell t year month h =
    rw h.written (year_written year month [], month_written year month [])

pub days_spell : (t : Text) (year month day : ℕ) → IsDayText t year month day → (year ≡ year_of t) × (month ≡ month_of t) × (day ≡ day_of t)
days_spell t year month day h =
    let rest = 45 ∷ two_digits day in
    rw h.written (year_written year month rest, month_written year month rest, day_written year month day)

-- days are known by their numbers
day_prop : (year month day : ℕ) → IsProp (IsDay year month day)
day_prop year month day = hlevel (le_prop, T_prop)

abbrev make_day : (year month day : ℕ) → IsDay year month day → Day
make_day year month day x = record { year = year; month = month; day = day; exists = x }

same_numbers : (y m d : ℕ) (x : IsDay y m d) (y' m' d' : ℕ) → y ≡ y' → m ≡ m' → d ≡ d' → (x' : IsDay y' m' d') → make_day y m d x ≡ make_day y' m' d' x'
same_numbers y m d x y' m' d' ey em ed =
    subst (λ (c : ℕ). (z : IsDay y' m' c) → make_day y m d x ≡ make_day y' m' c z) ed
    (subst (λ (b : ℕ). (z : IsDay y' b d) → make_day y m d x ≡ make_day y' b d z) em
    (subst (λ (a : ℕ). (z : IsDay a m d) → make_day y m d x ≡ make_day a m d z) ey (λ z. ap (make_day y m d) (day_prop y m d x z))))

pub same_day : (d e : Day) → d.year ≡ e.year → d.month ≡ e.month → d.day ≡ e.day → d ≡ e
same_day d e y m n = same_numbers d.year d.month d.day d.exists e.year e.month e.day y m n e.exists

month_prop : (year month : ℕ) → IsProp (IsMonth year month)
month_prop year month = hlevel le_prop

abbrev make_month : (year month : ℕ) → IsMonth year month → Month
make_month year month x = record { year = year; month = month; exists = x }

same_months : (y m : ℕ) (x : IsMonth y m) (y' m' : ℕ) → y ≡ y' → m ≡ m' → (x' : IsMonth y' m') → make_month y m x ≡ make_month y' m' x'
same_months y m x y' m' ey em =
    subst (λ (b : ℕ). (z : IsMonth y' b) → make_month y m x ≡ make_month y' b z) em
    (subst (λ (a : ℕ). (z : IsMonth a m) → make_month y m x ≡ make_month a m z) ey (λ z. ap (make_month y m) (month_prop y m x z)))

-- a text is that of one month, of one day
pub month_numbers : (t : Text) (y m y' m' : ℕ) → IsMonthText t y m → IsMonthText t y' m' → (y ≡ y') × (m ≡ m')
month_numbers t y m y' m' h k =
    let a = months_spell t y m h in
    let b = months_spell t y' m' k in
    (a.0 ∙ sym b.0, a.1 ∙ sym b.1)

pub day_numbers : (t : Text) (y m d y' m' d' : ℕ) → IsDayText t y m d → IsDayText t y' m' d' → (y ≡ y') × (m ≡ m') × (d ≡ d')
day_numbers t y m d y' m' d' h k = written_once y m d y' m' d' (sym h.written ∙ k.written)

pub months_once : (t : Text) (m n : Month) → IsMonthText t m.year m.month → IsMonthText t n.year n.month → m ≡ n
months_once t m n h k =
    let e = month_numbers t m.year m.month n.year n.month h k in
    same_months m.year m.month m.exists n.year n.month e.0 e.1 n.exists

pub days_once : (t : Text) (d e : Day) → IsDayText t d.year d.month d.day → IsDayText t e.year e.month e.day → d ≡ e
days_once t d e h k =
    let f = day_numbers t d.year d.month d.day e.year e.month e.day h k in
    same_day d e f.0 f.1 f.2

pub whens_once : (t : Text) (a b : When) → IsWhenText t a → IsWhenText t b → a ≡ b
whens_once t (when.Month m) (when.Month n) h k = ap when.Month (months_once t m n h k)
whens_once t (when.Month m) (when.Day e) h k = absurd (omega (arith, ap length (sym h.written ∙ k.written)))
whens_once t (when.Day d) (when.Month n) h k = absurd (omega (arith, ap length (sym h.written ∙ k.written)))
whens_once t (when.Day d) (when.Day e) h k = ap when.Day (days_once t d e h k)

pub when_written : (a : When) → IsWhenText (when_text a) a
when_written (when.Month m) = record { exists = m.exists; written = refl }
when_written (when.Day d) = record { exists = d.exists; written = refl }

-- so many bytes of a text from a place on
bytes_from : Text → ℕ → ℕ → Text
bytes_from t i zero = []
bytes_from t i (suc n) = get_or t i 0 ∷ bytes_from t (suc i) n

bytes_are : (t : Text) (i n : ℕ) → i + n ≡ length t → drop i t ≡ bytes_from t i n
unfolding bytes_from
bytes_are t i zero e = drop_all i t (omega arith)
bytes_are t i (suc n) e = drop-cons t i 0 (omega arith) ∙ ap (λ r. get_or t i 0 ∷ r) (bytes_are t (suc i) n (omega arith))

-- ten bytes, of which these two are `-`, and which are the digits of these numbers, are the text of a day
pub day_read : (t : Text) (century year month day : ℕ) → length t ≡ 10 → year < 100 → get_or t 4 0 ≡ 45 → get_or t 7 0 ≡ 45 →
    two_digits century ≡ get_or t 0 0 ∷ get_or t 1 0 ∷ [] → two_digits year ≡ get_or t 2 0 ∷ get_or t 3 0 ∷ [] →
    two_digits month ≡ get_or t 5 0 ∷ get_or t 6 0 ∷ [] → two_digits day ≡ get_or t 8 0 ∷ get_or t 9 0 ∷ [] →
    t ≡ day_text (century * 100 + year) month day
unfolding bytes_from
day_read t century year month day ten small dash second c y m d =
    let high : (century * 100 + year) / 100 ≡ century = omega arith in
    let low : (century * 100 + year) % 100 ≡ year = omega arith in
    bytes_are t 0 10 (sym ten)
    ∙ sym (ap₂ (λ a b. two_digits a ++ two_digits b ++ 45 ∷ two_digits month ++ 45 ∷ two_digits day) high low
    ∙ ap₂ (λ a b. a ++ b ++ 45 ∷ two_digits month ++ 45 ∷ two_digits day) c y
    ∙ ap₂ (λ a b. get_or t 0 0 ∷ get_or t 1 0 ∷ get_or t 2 0 ∷ get_or t 3 0 ∷ a ∷ (two_digits month ++ b ∷ two_digits day)) (sym dash) (sym second)
    ∙ ap₂ (λ a b. get_or t 0 0 ∷ get_or t 1 0 ∷ get_or t 2 0 ∷ get_or t 3 0 ∷ get_or t 4 0 ∷ (a ++ get_or t 7 0 ∷ b)) m d)

-- the day of three numbers, if there is one, is the day of the text that is written from them
pub day_found : (t : Text) (found : Option Day) (year month day : ℕ) → t ≡ day_text year month day →
    IfSome found (λ d. (d.year ≡ year) × (d.month ≡ month) × (d.day ≡ day)) → IfSome found (λ d. IsDayText t d.year d.month d.day)
day_found t None year month day is same = tt
day_found t (Some d) year month day is same = record { exists = d.exists; written = rw (same.0, same.1, same.2) is }

pub day_there : (t : Text) (year month day : ℕ) → t ≡ day_text year month day → IsDaySpelled t → IsDay year month day
day_there t year month day is h =
    let once = written_once h.0 h.1 h.2 year month day (sym h.3.written ∙ is) in
    rw (once.0, once.1, once.2) at h.3.exists
