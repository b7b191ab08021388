-- A year has at most 366 days.
use Rattle.std.proofs.Common.{◌≡◌, ℕ, zero, suc, ◌+◌, ◌<◌, ◌≤◌, ◌-◌, List, [], ◌∷◌, length, Bool, true, false, refl, sym, ap, ◌∙◌, arith, pos}
use Rattle.std.specs.Prelude.{if◌then◌else◌, ◌==◌, ◌||◌}
use Rattle.std.specs.List.{AllByRecursion}
use Rattle.std.specs.declared.cmp.Ordering.TheVariants.{Less}
use Rattle.std.proofs.lemmas.Bool.Decides.{nat_tests}
use Rattle.std.proofs.lemmas.Int.{ints}
use Rattle.payroll_records.specs.declared.day.Day.{Day}
use Rattle.payroll_records.specs.declared.record.Record.{Record}
use Rattle.rising_lists.specs.Keyed.{AreAbove, IsRising}
use Rattle.payroll_records.specs.Orders.{day_cmp}
use Rattle.book_year.specs.Records.{record_day}
use Rattle.jiff.specs.Words.{is_leap_year}

-- the most days of a month, and those of the months before one; they count from a month 0 of 31 days
abbrev month_days : ℕ → ℕ
month_days m = if m == 2 then 29 else (if (m == 4) || (m == 6) || (m == 9) || (m == 11) then 30 else 31)

unfoldable days_before : ℕ → ℕ
days_before zero = 0
days_before (suc m) = days_before m + month_days m

month_most : (leap : Bool) (m : ℕ) → (if m == 2 then (if leap then 29 else 28) else (if (m == 4) || (m == 6) || (m == 9) || (m == 11) then 30 else 31)) ≤ month_days m
month_most true m = elim (m == 2) as (λ b. (if b then 29 else (if (m == 4) || (m == 6) || (m == 9) || (m == 11) then 30 else 31)) ≤ (if b then 29 else (if (m == 4) || (m == 6) || (m == 9) || (m == 11) then 30 else 31))) [ true ↦ omega arith | false ↦ omega arith ]
month_most false m = elim (m == 2) as (λ b. (if b then 28 else (if (m == 4) || (m == 6) || (m == 9) || (m == 11) then 30 else 31)) ≤ (if b then 29 else (if (m == 4) || (m == 6) || (m == 9) || (m == 11) then 30 else 31))) [ true ↦ omega arith | false ↦ omega arith ]

record IsNumbered (d : Day) : Type 0 where
  pub from : 1 ≤ d.month
  pub to : d.month ≤ 12
  pub first : 1 ≤ d.day
  pub last : d.day ≤ month_days d.month

numbered : (d : Day) → IsNumbered d
numbered d =
    let date = d.exists.exists in
    record {
      from = omega (arith, ints, date.1.0);
      to = omega (arith, ints, date.1.1);
      first = omega (arith, ints, date.2.0);
      last = omega (arith, ints, date.2.1, month_most (is_leap_year (pos d.year)) d.month);
    }

-- the number of a day in its year, of one with a leap day
abbrev number : Day → ℕ
number d = days_before d.month + d.day

still : (m : ℕ) → days_before (m + 0) ≡ days_before m
still m = ap days_before (omega arith)

next : (m : ℕ) → days_before (suc m) ≡ days_before m + month_days m
unfolding days_before
next m = refl

step : (m k : ℕ) → days_before (m + suc k) ≡ days_before (m + k) + month_days (m + k)
step m k = shifted ∙ next (m + k)
  where
    shifted : days_before (m + suc k) ≡ days_before (suc (m + k))
    shifted = ap days_before (omega arith)

more_before : (m k : ℕ) → days_before m + month_days m ≤ days_before (m + suc k)
more_before m zero = omega (arith, step m 0, still m, ap month_days (plus_zero m))
  where
    plus_zero : (m : ℕ) → m + 0 ≡ m
    plus_zero m = omega arith
more_before m (suc k) = omega (arith, more_before m k, step m (suc k))

later : (m k d e : ℕ) → (k ≡ 0 → d < e) → d ≤ month_days m → 1 ≤ e → days_before m + d < days_before (m + k) + e
later m zero d e h l f = omega (arith, h refl, still m)
later m (suc k) d e h l f = omega (arith, more_before m k)

whole_year : days_before 13 ≡ 397
unfolding days_before
whole_year = refl

first_month : days_before 1 ≡ 31
unfolding days_before
first_month = refl

-- it rises within a year
less_number : (a b : Day) → a.year ≡ b.year → day_cmp a b ≡ Less → number a < number b
less_number a b y e =
    let up : a.month ≤ b.month = grind (arith, nat_tests) in
    let on : b.month - a.month ≡ 0 → a.day < b.day = λ m. same_month (omega arith) in
    let k = later a.month (b.month - a.month) a.day b.day on (numbered a).last (numbered b).first in
    let there : days_before (a.month + (b.month - a.month)) ≡ days_before b.month = ap days_before (omega arith) in
    omega (arith, k, there)
  where
    same_month : a.month ≡ b.month → a.day < b.day
    same_month m = grind (arith, nat_tests)

-- and lies from 32 to 397
number_low : (d : Day) → 32 ≤ number d
number_low d =
    let n = numbered d in
    let k = later 0 d.month 0 d.day (λ z. absurd (omega (arith, n.from))) (omega arith) n.first in
    let more = before_more 1 (d.month - 1) in
    let there : days_before (1 + (d.month - 1)) ≡ days_before d.month = ap days_before (omega (arith, n.from)) in
    omega (arith, n.first, first_month, more, there)
  where
    before_more : (m k : ℕ) → days_before m ≤ days_before (m + k)
    before_more m zero = omega (arith, still m)
    before_more m (suc k) = omega (arith, more_before m k)

number_high : (d : Day) → number d ≤ 397
number_high d =
    let n = numbered d in
    let more = more_before d.month (12 - d.month) in
    let there : days_before (d.month + suc (12 - d.month)) ≡ days_before 13 = ap days_before (omega (arith, n.to)) in
    omega (arith, n.last, more, there, whole_year)

abbrev pub IsIn : ℕ → Record → Type 0
IsIn year r = r.day.year ≡ year

span : (year : ℕ) (k : Day) (rs : List Record) → k.year ≡ year → AreAbove day_cmp record_day k rs → IsRising day_cmp record_day rs → AllByRecursion (IsIn year) rs → length rs + number k ≤ 397
span year k [] y above rising own = omega (arith, number_high k)
span year k (r ∷ rs) y above rising own =
    omega (arith, span year r.day rs own.0 rising.0 rising.1 own.1, less_number k r.day (y ∙ sym own.0) above.0)

-- a year has at most 366 runs
pub year_few : (year : ℕ) (rs : List Record) → IsRising day_cmp record_day rs → AllByRecursion (IsIn year) rs → length rs ≤ 366
year_few year [] rising own = omega arith
year_few year (r ∷ rs) rising own = omega (arith, span year r.day rs own.0 rising.0 rising.1 own.1, number_low r.day)
