-- Runs put one after another: where their keys differ their order doesn't matter, and each is one run more.
use Rattle.std.proofs.Common.{◌≡◌, ◌≢◌, ℕ, ◌+◌, ◌<◌, List, [], ◌∷◌, length, true, false, if◌then◌else◌, Option, Some, None, IsNone, refl, sym, ap, subst, ◌∙◌, arith}
use Rattle.std.specs.List.{AllByRecursion}
use Rattle.std.specs.List.Sorted.{IsPermutation}
use Rattle.std.specs.declared.cmp.Ordering.{Ordering}
use Rattle.std.specs.declared.cmp.Ordering.TheVariants.{Less, Equal, Greater}
use Rattle.std.specs.Ordering.{is_eq}
use Rattle.std.proofs.lemmas.Bool.{false≢true}
use Rattle.std.proofs.lemmas.Cmp.{tied_back}
use Rattle.rising_lists.specs.Keyed.{at_key, put, IsRising}
use Rattle.rising_lists.proofs.Laws.{at_key_put, put_rising}
use Rattle.payroll_records.specs.declared.record.Record.{Record}
use Rattle.payroll_records.specs.Orders.{day_cmp}
use Rattle.payroll_records.specs.Tables.{HaveOwnKeys, key_of}
use Rattle.payroll_records.proofs.Laws.{day_same, day_total, own_parts}
use Rattle.book_year.specs.declared.year.YearKey.{YearKey}
use Rattle.book_year.specs.Records.{put_run, record_day}
use Rattle.book_year.proofs.Laws.{rising_put}
use Rattle.book_edits.specs.Books.{YearRuns, AreInOrder, added, loaded, run_at, run_count, runs_key, runs_of, runs_or_none, with_runs, year_cmp, year_of}
use Rattle.book_edits.proofs.ListLemmas.{all_put, put_some, sum_put, length_put}
use Rattle.book_edits.proofs.YearsLemmas.{year_total, year_same}
use Rattle.book_edits.proofs.PresentLemmas.{IsFree}
use Rattle.book_edits.proofs.PutLemmas.{put_comm, put_over}
use Rattle.book_edits.proofs.FoldLemmas.{folded, folded_permutation, AreApart}

-- the year of a record
abbrev pub year_at : Record → YearKey
year_at r = year_of (key_of r)

abbrev pub year_holding : YearKey → List Record → YearRuns
year_holding k rs = record { key = k; runs = rs }

abbrev pub put_year : YearRuns → List YearRuns → List YearRuns
put_year y ys = put year_cmp runs_key y ys

with_some : (k : YearKey) (rs : List Record) (ys : List YearRuns) → 0 < length rs → with_runs k rs ys ≡ put_year (year_holding k rs) ys
with_some k [] ys l = absurd (omega arith)
with_some k (r ∷ rs) ys l = refl

-- a run put is a year put
pub added_is : (r : Record) (ys : List YearRuns) → added r ys ≡ put_year (year_holding (year_at r) (put_run r (runs_of ys (year_at r)))) ys
added_is r ys = with_some (year_at r) (put_run r (runs_of ys (year_at r))) ys (put_some day_cmp record_day r (runs_of ys (year_at r)))

is_less_apart : (o : Ordering) → o ≡ Less → o ≡ Equal → ⊥
is_less_apart o l e = let p = sym l ∙ e in cc

is_greater_apart : (o : Ordering) → o ≡ Greater → o ≡ Equal → ⊥
is_greater_apart o g e = let p = sym g ∙ e in cc

pub runs_put_same : (y : YearRuns) (ys : List YearRuns) (k : YearKey) → year_cmp y.key k ≡ Equal → runs_of (put_year y ys) k ≡ y.runs
runs_put_same y ys k e = ap runs_or_none (at_key_put year_cmp year_total runs_key y ys k ∙ ap (λ o. if is_eq o then Some y else at_key year_cmp runs_key ys k) e)

pub runs_put_other : (y : YearRuns) (ys : List YearRuns) (k : YearKey) → (year_cmp y.key k ≡ Equal → ⊥) → runs_of (put_year y ys) k ≡ runs_of ys k
runs_put_other y ys k apart =
    ap runs_or_none (at_key_put year_cmp year_total runs_key y ys k)
    ∙ (elim (year_cmp y.key k) as (λ o. year_cmp y.key k ≡ o → runs_or_none (if is_eq o then Some y else at_key year_cmp runs_key ys k) ≡ runs_of ys k) [
      | Less ↦ λ e. refl
      | Equal ↦ λ e. absurd (apart e)
      | Greater ↦ λ e. refl
    ] refl)

-- ---- runs with different keys

abbrev pub HaveTwoKeys : Record → Record → Type 0
HaveTwoKeys r s = key_of r ≢ key_of s

two_keys_back : (r s : Record) → HaveTwoKeys r s → HaveTwoKeys s r
two_keys_back r s apart e = apart (sym e)

-- in one year they have different days
two_days : (r s : Record) → HaveTwoKeys r s → year_at r ≡ year_at s → day_cmp r.day s.day ≡ Equal → ⊥
two_days r s apart same day =
    let one : r.employee ≡ s.employee = ap (λ (k : YearKey). k.employee) same in
    let days : r.day ≡ s.day = day_same r.day s.day day in
    apart (λ i. record { employee = one i; day = days i })

in_one_year : (r s : Record) (ys : List YearRuns) → year_cmp (year_at s) (year_at r) ≡ Equal → year_cmp (year_at r) (year_at s) ≡ Equal →
    added r (added s ys) ≡ put_year (year_holding (year_at r) (put_run r (put_run s (runs_of ys (year_at s))))) ys
in_one_year r s ys e f =
    let year = year_holding (year_at s) (put_run s (runs_of ys (year_at s))) in
    let runs : runs_of (added s ys) (year_at r) ≡ put_run s (runs_of ys (year_at s)) = ap (λ l. runs_of l (year_at r)) (added_is s ys) ∙ runs_put_same year ys (year_at r) e in
    added_is r (added s ys)
    ∙ (λ i. put_year (year_holding (year_at r) (put_run r (runs i))) (added_is s ys i))
    ∙ put_over year_cmp year_total runs_key (year_holding (year_at r) (put_run r (put_run s (runs_of ys (year_at s))))) year ys f

in_two_years : (r s : Record) (ys : List YearRuns) → (year_cmp (year_at s) (year_at r) ≡ Equal → ⊥) →
    added r (added s ys) ≡ put_year (year_holding (year_at r) (put_run r (runs_of ys (year_at r)))) (put_year (year_holding (year_at s) (put_run s (runs_of ys (year_at s)))) ys)
in_two_years r s ys apart =
    let year = year_holding (year_at s) (put_run s (runs_of ys (year_at s))) in
    let runs : runs_of (added s ys) (year_at r) ≡ runs_of ys (year_at r) = ap (λ l. runs_of l (year_at r)) (added_is s ys) ∙ runs_put_other year ys (year_at r) apart in
    added_is r (added s ys) ∙ (λ i. put_year (year_holding (year_at r) (put_run r (runs i))) (added_is s ys i))

same_year_comm : (r s : Record) (ys : List YearRuns) → HaveTwoKeys r s → year_cmp (year_at r) (year_at s) ≡ Equal → added r (added s ys) ≡ added s (added r ys)
same_year_comm r s ys apart e =
    let back = tied_back year_total (year_at r) (year_at s) e in
    let same : year_at r ≡ year_at s = year_same (year_at r) (year_at s) e in
    in_one_year r s ys back e
    ∙ (λ i. put_year (year_holding (same i) (put_run r (put_run s (runs_of ys (sym same i))))) ys)
    ∙ ap (λ t. put_year (year_holding (year_at s) t) ys) (put_comm day_cmp day_total record_day r s (runs_of ys (year_at r)) (two_days r s apart same))
    ∙ sym (in_one_year s r ys e back)

two_years_comm : (r s : Record) (ys : List YearRuns) → (year_cmp (year_at r) (year_at s) ≡ Equal → ⊥) → added r (added s ys) ≡ added s (added r ys)
two_years_comm r s ys apart =
    in_two_years r s ys (λ e. apart (tied_back year_total (year_at s) (year_at r) e))
    ∙ put_comm year_cmp year_total runs_key (year_holding (year_at r) (put_run r (runs_of ys (year_at r)))) (year_holding (year_at s) (put_run s (runs_of ys (year_at s)))) ys apart
    ∙ sym (in_two_years s r ys apart)

pub added_comm : (r s : Record) (ys : List YearRuns) → HaveTwoKeys r s → added r (added s ys) ≡ added s (added r ys)
added_comm r s ys apart = elim (year_cmp (year_at r) (year_at s)) as (λ o. year_cmp (year_at r) (year_at s) ≡ o → added r (added s ys) ≡ added s (added r ys)) [
  | Less ↦ λ e. two_years_comm r s ys (is_less_apart (year_cmp (year_at r) (year_at s)) e)
  | Equal ↦ λ e. same_year_comm r s ys apart e
  | Greater ↦ λ e. two_years_comm r s ys (is_greater_apart (year_cmp (year_at r) (year_at s)) e)
] refl

-- ---- in any order

loaded_folded : (rs : List Record) (ys : List YearRuns) → loaded rs ys ≡ folded added rs ys
loaded_folded [] ys = refl
loaded_folded (r ∷ rs) ys = loaded_folded rs (added r ys)

pub distinct_apart : (rs : List Record) → HaveOwnKeys rs → AreApart HaveTwoKeys rs
distinct_apart [] h = tt
distinct_apart (r ∷ rs) h = let parts = own_parts r rs h in (parts.0, distinct_apart rs parts.1)

pub loaded_permutation : (rs ss : List Record) → HaveOwnKeys rs → IsPermutation rs ss → (ys : List YearRuns) → loaded ss ys ≡ loaded rs ys
loaded_permutation rs ss d p ys =
    loaded_folded ss ys ∙ folded_permutation HaveTwoKeys two_keys_back added added_comm ys rs ss (distinct_apart rs d) p ∙ sym (loaded_folded rs ys)

-- ---- how many there are

rising_here : (years : List YearRuns) (k : YearKey) → AllByRecursion (λ y. IsRising day_cmp record_day y.runs) years → IsRising day_cmp record_day (runs_of years k)
rising_here [] k days = tt
rising_here (y ∷ ys) k days = elim (is_eq (year_cmp y.key k)) as (λ b. IsRising day_cmp record_day (runs_or_none (if b then Some y else at_key year_cmp runs_key ys k))) [
  | true ↦ days.0
  | false ↦ rising_here ys k days.1
]

in_order_added : (r : Record) (ys : List YearRuns) → AreInOrder ys → AreInOrder (added r ys)
in_order_added r ys h =
    let k = year_at r in
    let runs = put_run r (runs_of ys k) in
    subst AreInOrder (sym (added_is r ys)) (record {
      rising = put_rising year_cmp year_total runs_key (year_holding k runs) ys h.rising;
      days = all_put year_cmp runs_key (λ y. IsRising day_cmp record_day y.runs) (year_holding k runs) ys (rising_put r (runs_of ys k) (rising_here ys k h.days)) h.days;
      some = all_put year_cmp runs_key (λ y. 0 < length y.runs) (year_holding k runs) ys (put_some day_cmp record_day r (runs_of ys k)) h.some;
    })

abbrev run_length : YearRuns → ℕ
run_length y = length y.runs

count_by : (k : YearKey) (rs : List Record) (ys : List YearRuns) → IsRising year_cmp runs_key ys → (o : Option YearRuns) → at_key year_cmp runs_key ys k ≡ o →
    run_count (put_year (year_holding k rs) ys) + length (runs_or_none o) ≡ run_count ys + length rs
count_by k rs ys h None e = rw e at (sum_put year_cmp year_total runs_key run_length (year_holding k rs) ys h)
count_by k rs ys h (Some y) e = rw e at (sum_put year_cmp year_total runs_key run_length (year_holding k rs) ys h)

none_is : {X : Type 0} (o : Option X) → IsNone o → o ≡ None
none_is None e = refl
none_is (Some x) e = absurd (false≢true (sym e))

run_put_other : (r s : Record) (rs : List Record) → (day_cmp r.day s.day ≡ Equal → ⊥) → at_key day_cmp record_day (put_run r rs) s.day ≡ at_key day_cmp record_day rs s.day
run_put_other r s rs apart =
    at_key_put day_cmp day_total record_day r rs s.day
    ∙ (elim (day_cmp r.day s.day) as (λ o. day_cmp r.day s.day ≡ o → (if is_eq o then Some r else at_key day_cmp record_day rs s.day) ≡ at_key day_cmp record_day rs s.day) [
      | Less ↦ λ e. refl
      | Equal ↦ λ e. absurd (apart e)
      | Greater ↦ λ e. refl
    ] refl)

run_in_year : (r s : Record) (ys : List YearRuns) → HaveTwoKeys r s → year_cmp (year_at r) (year_at s) ≡ Equal → run_at (added r ys) (key_of s) ≡ run_at ys (key_of s)
run_in_year r s ys apart e =
    let same : year_at r ≡ year_at s = year_same (year_at r) (year_at s) e in
    let year = year_holding (year_at r) (put_run r (runs_of ys (year_at r))) in
    ap (λ l. at_key day_cmp record_day (runs_of l (year_at s)) s.day) (added_is r ys)
    ∙ ap (λ l. at_key day_cmp record_day l s.day) (runs_put_same year ys (year_at s) e)
    ∙ run_put_other r s (runs_of ys (year_at r)) (two_days r s apart same)
    ∙ ap (λ k. at_key day_cmp record_day (runs_of ys k) s.day) same

run_elsewhere : (r s : Record) (ys : List YearRuns) → (year_cmp (year_at r) (year_at s) ≡ Equal → ⊥) → run_at (added r ys) (key_of s) ≡ run_at ys (key_of s)
run_elsewhere r s ys apart =
    let year = year_holding (year_at r) (put_run r (runs_of ys (year_at r))) in
    ap (λ l. at_key day_cmp record_day (runs_of l (year_at s)) s.day) (added_is r ys)
    ∙ ap (λ l. at_key day_cmp record_day l s.day) (runs_put_other year ys (year_at s) apart)

-- a run put leaves every other key what it had
run_at_added : (r s : Record) (ys : List YearRuns) → HaveTwoKeys r s → run_at (added r ys) (key_of s) ≡ run_at ys (key_of s)
run_at_added r s ys apart = elim (year_cmp (year_at r) (year_at s)) as (λ o. year_cmp (year_at r) (year_at s) ≡ o → run_at (added r ys) (key_of s) ≡ run_at ys (key_of s)) [
  | Less ↦ λ e. run_elsewhere r s ys (is_less_apart (year_cmp (year_at r) (year_at s)) e)
  | Equal ↦ λ e. run_in_year r s ys apart e
  | Greater ↦ λ e. run_elsewhere r s ys (is_greater_apart (year_cmp (year_at r) (year_at s)) e)
] refl

free_still : (r : Record) (ys : List YearRuns) (rs : List Record) → AllByRecursion (HaveTwoKeys r) rs → AllByRecursion (IsFree ys) rs → AllByRecursion (IsFree (added r ys)) rs
free_still r ys [] apart free = tt
free_still r ys (s ∷ rs) apart free = (subst (λ o. IsNone o) (sym (run_at_added r s ys apart.0)) free.0, free_still r ys rs apart.1 free.1)

count_added : (r : Record) (ys : List YearRuns) → AreInOrder ys → IsFree ys r → run_count (added r ys) ≡ run_count ys + 1
count_added r ys h free =
    let k = year_at r in
    let rs = runs_of ys k in
    let longer = length_put day_cmp day_total record_day r rs (rising_here ys k h.days) (none_is (run_at ys (key_of r)) free) in
    let more = count_by k (put_run r rs) ys h.rising (at_key year_cmp runs_key ys k) refl in
    omega (arith, ap run_count (added_is r ys), longer, more)

-- runs at free keys are so many runs more
pub count_loaded : (rs : List Record) (ys : List YearRuns) → AreInOrder ys → AllByRecursion (IsFree ys) rs → AreApart HaveTwoKeys rs → run_count (loaded rs ys) ≡ run_count ys + length rs
count_loaded [] ys h free apart = omega arith
count_loaded (r ∷ rs) ys h free apart =
    omega (arith, count_loaded rs (added r ys) (in_order_added r ys h) (free_still r ys rs apart.0 free.1) apart.1, count_added r ys h free.0)
