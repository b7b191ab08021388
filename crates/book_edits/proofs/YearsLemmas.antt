-- An edit of one year runs what is new there, and nothing elsewhere.
use Rattle.std.proofs.Common.{◌≡◌, ℕ, ◌<◌, List, [], ◌∷◌, ◌++◌, length, Some, None, option_map, refl, sym, ap, subst, ◌∙◌, arith, get_or, set}
use Rattle.std.specs.List.{AllByRecursion, insert, remove}
use Rattle.std.specs.declared.cmp.Ordering.TheVariants.{Less, Equal, Greater}
use Rattle.std.specs.Ordering.{nat_cmp}
use Rattle.std.specs.Cmp.{IsTotalOrder}
use Rattle.std.specs.Cmp.Lexicographic.{nat_list_cmp_total, slice_cmp}
use Rattle.std.proofs.lemmas.Bool.Decides.{nat_tests}
use Rattle.std.proofs.lemmas.Cmp.{tied_itself, nat_cmp_total, on_total, then_total}
use Rattle.std.proofs.lemmas.List.{append-nil, map-set, set-get_or, get_or-map}
use Rattle.std.proofs.lemmas.List.Elements.{All-from_recursion}
use Rattle.rising_lists.specs.Keyed.{at_key, put, put_by, without, IsRising}
use Rattle.rising_lists.specs.Places.{Finds, Misses}
use Rattle.rising_lists.proofs.Laws.{first_tie, put_rising, second_tie, text_same, without_rising}
use Rattle.payroll_records.specs.declared.record.Record.{Record}
use Rattle.payroll_records.specs.Orders.{day_cmp}
use Rattle.plan_calendar.specs.Picking.{Entry, pick}
use Rattle.book_year.specs.Accepted.{Accepted}
use Rattle.book_year.specs.declared.outcome.Work.{Work}
use Rattle.book_year.specs.declared.year.Year.{Year}
use Rattle.book_year.specs.declared.year.YearKey.{YearKey}
use Rattle.book_year.specs.Jobs.{work_of}
use Rattle.book_year.specs.Records.{record_day}
use Rattle.book_year.specs.Rows.{Planned}
use Rattle.book_year.specs.YearClauses.{IsYearEdit, IsSameYear}
use Rattle.book_year.specs.Years.{IsYear, year_jobs}
use Rattle.book_year.proofs.Laws.{year_quiet}
use Rattle.book_edits.specs.Books.{YearRuns, AreInOrder, runs_key, runs_of, runs_or_none, with_runs, year_cmp}
use Rattle.book_edits.specs.Kept.{HasRuns, jobs_in, kept_key, runs_in, runs_in_year}
use Rattle.book_edits.specs.private.Views.{AreKeptYears, IsListEdit, IsSameList}
use Rattle.book_edits.proofs.ListLemmas.{all_put, all_without, at_key_map, at_key_tied, found_each, map_put, map_rising, map_without}

-- ---- the orders of years and of runs

pub year_total : IsTotalOrder year_cmp
year_total = then_total (on_total (λ (k : YearKey). k.employee) nat_list_cmp_total) (on_total (λ (k : YearKey). k.year) nat_cmp_total)

same_number : (m n : ℕ) → nat_cmp m n ≡ Equal → m ≡ n
same_number m n e = grind (arith, nat_tests)

-- keys that tie are one key
pub year_same : (a b : YearKey) → year_cmp a b ≡ Equal → a ≡ b
year_same a b e =
    let employees = slice_cmp nat_cmp a.employee b.employee in
    let employee = text_same a.employee b.employee (first_tie employees (nat_cmp a.year b.year) e) in
    let year : a.year ≡ b.year = same_number a.year b.year (second_tie employees (nat_cmp a.year b.year) e) in
    λ i. record { employee = employee i; year = year i }

-- ---- the new jobs of an edit

module _ (planned : Planned) (old : List YearRuns) where
  -- the year has nothing to run against the old years
  abbrev pub IsQuiet : YearRuns → Type 0
  IsQuiet y = year_jobs planned planned (runs_of old y.key) y.runs ≡ []

  pub jobs_quiet : (ys : List YearRuns) → AllByRecursion IsQuiet ys → jobs_in planned planned old ys ≡ []
  jobs_quiet [] all = refl
  jobs_quiet (y ∷ ys) all = rw (all.0) (jobs_quiet ys all.1)

  jobs_put : (y : YearRuns) (ys : List YearRuns) → AllByRecursion IsQuiet ys → jobs_in planned planned old (put year_cmp runs_key y ys) ≡ year_jobs planned planned (runs_of old y.key) y.runs
  jobs_put y [] all = append-nil _
  jobs_put y (x ∷ ys) all = elim (year_cmp y.key x.key) as (λ o. jobs_in planned planned old (put_by o y x ys (put year_cmp runs_key y ys)) ≡ year_jobs planned planned (runs_of old y.key) y.runs) [
    | Less ↦ ap (λ t. year_jobs planned planned (runs_of old y.key) y.runs ++ t) (jobs_quiet (x ∷ ys) all) ∙ append-nil _
    | Equal ↦ ap (λ t. year_jobs planned planned (runs_of old y.key) y.runs ++ t) (jobs_quiet ys all.1) ∙ append-nil _
    | Greater ↦ rw all.0 (jobs_put y ys all.1)
  ]

  -- an edit of one year runs what is new in it
  pub jobs_with_runs : (k : YearKey) (rs : List Record) (ys : List YearRuns) → AllByRecursion IsQuiet ys → jobs_in planned planned old (with_runs k rs ys) ≡ year_jobs planned planned (runs_of old k) rs
  jobs_with_runs k [] ys all = jobs_quiet (without year_cmp runs_key k ys) (all_without year_cmp runs_key IsQuiet k ys all)
  jobs_with_runs k (r ∷ rs) ys all = jobs_put (record { key = k; runs = r ∷ rs }) ys all

-- the runs of a year that is kept
pub runs_kept : (ys : List Year) (k : YearKey) (y : Year) → at_key year_cmp kept_key ys k ≡ Some y → runs_of (runs_in ys) k ≡ y.records.items
runs_kept ys k y at = ap runs_or_none (at_key_map year_cmp runs_key runs_in_year ys k ∙ ap (option_map runs_in_year) at)

pub runs_missed : (ys : List Year) (k : YearKey) → at_key year_cmp kept_key ys k ≡ None → runs_of (runs_in ys) k ≡ []
runs_missed ys k at = ap runs_or_none (at_key_map year_cmp runs_key runs_in_year ys k ∙ ap (option_map runs_in_year) at)

-- the years that are kept have nothing to run against themselves
quiet_some : (plans : List (Entry Accepted)) (all some : List Year) → AllByRecursion (IsYear plans) some → AllByRecursion (λ y. at_key year_cmp kept_key all y.key ≡ Some y) some → AllByRecursion (IsQuiet (pick plans) (runs_in all)) (runs_in some)
quiet_some plans all [] each found = tt
quiet_some plans all (y ∷ ys) each found =
    let runs = runs_kept all y.key y found.0 in
    (rw runs (year_quiet (pick plans) y.records.items each.0.kept.rising), quiet_some plans all ys each.1 found.1)

pub quiet_years : (plans : List (Entry Accepted)) (ys : List Year) → AreKeptYears plans ys → AllByRecursion (IsQuiet (pick plans) (runs_in ys)) (runs_in ys)
quiet_years plans ys kept = quiet_some plans ys ys kept.each (found_each year_cmp year_total kept_key ys kept.rising)

-- ---- years that are kept stand in order

days_kept : (plans : List (Entry Accepted)) (ys : List Year) → AllByRecursion (IsYear plans) ys → AllByRecursion (λ y. IsRising day_cmp record_day y.runs) (runs_in ys)
days_kept plans [] each = tt
days_kept plans (y ∷ ys) each = (each.0.kept.rising, days_kept plans ys each.1)

some_kept : (ys : List Year) → AllByRecursion HasRuns ys → AllByRecursion (λ y. 0 < length y.runs) (runs_in ys)
some_kept [] some = tt
some_kept (y ∷ ys) some = (some.0, some_kept ys some.1)

pub kept_in_order : (plans : List (Entry Accepted)) (ys : List Year) → AreKeptYears plans ys → AreInOrder (runs_in ys)
kept_in_order plans ys kept = record {
  rising = map_rising year_cmp runs_key runs_in_year ys kept.rising;
  days = days_kept plans ys kept.each;
  some = some_kept ys kept.some;
}

-- ---- an edit of one year

with_some : (k : YearKey) (rs : List Record) (ys : List YearRuns) → 0 < length rs → with_runs k rs ys ≡ put year_cmp runs_key (record { key = k; runs = rs }) ys
with_some k [] ys l = absurd (omega arith)
with_some k (r ∷ rs) ys l = refl

pub put_edit : (plans : List (Entry Accepted)) (ys : List Year) (y y' : Year) (records : List Record) (w : Work) → AreKeptYears plans ys → IsYearEdit plans y y' records w → 0 < length records →
    runs_of (runs_in ys) y.key ≡ y.records.items → IsListEdit plans ys (put year_cmp kept_key y' ys) (with_runs y.key records (runs_in ys)) w
put_edit plans ys y y' records w kept edit some runs = record {
  kept = record {
    rising = put_rising year_cmp year_total kept_key y' ys kept.rising;
    each = all_put year_cmp kept_key (IsYear plans) y' ys edit.year kept.each;
    some = all_put year_cmp kept_key HasRuns y' ys (rw edit.records_are some) kept.some;
  };
  years_are = map_put year_cmp runs_key runs_in_year y' ys ∙ (λ i. put year_cmp runs_key (record { key = edit.key i; runs = edit.records_are i }) (runs_in ys)) ∙ sym (with_some y.key records (runs_in ys) some);
  work_is = edit.work_is ∙ ap work_of (sym (jobs_with_runs (pick plans) (runs_in ys) y.key records (runs_in ys) (quiet_years plans ys kept) ∙ ap (λ t. year_jobs (pick plans) (pick plans) t records) runs));
}

-- a year that isn't there, added
pub insert_edit : (plans : List (Entry Accepted)) (ys : List Year) (y y' : Year) (i : ℕ) (records : List Record) (w : Work) → AreKeptYears plans ys → Misses year_cmp kept_key ys y.key i → y.records.items ≡ [] → IsYearEdit plans y y' records w →
    0 < length records → IsListEdit plans ys (insert ys i y') (with_runs y.key records (runs_in ys)) w
insert_edit plans ys y y' i records w kept gap none edit some =
    let e = gap.put y' (ap (λ k. year_cmp k y.key) edit.key ∙ tied_itself year_total y.key) in
    subst (λ t. IsListEdit plans ys t (with_runs y.key records (runs_in ys)) w) e
    (put_edit plans ys y y' records w kept edit some (runs_missed ys y.key gap.at ∙ sym none))

-- a search for a year found this one
pub record IsFound (ys : List Year) (k : YearKey) (i : ℕ) (y : Year) : Type 0 where
  pub here : Finds year_cmp kept_key ys k i
  pub key : y.key ≡ k
  pub is : y ≡ get_or ys i y

pub found_year : (ys : List Year) (k : YearKey) (i : ℕ) (y : Year) → Finds year_cmp kept_key ys k i → y ≡ get_or ys i y → IsFound ys k i y
found_year ys k i y h is =
    let at : at_key year_cmp kept_key ys k ≡ Some y = h.at y ∙ ap (λ t. Some t) (sym is) in
    record { here = h; key = year_same y.key k (at_key_tied year_cmp kept_key ys k y at); is = is }

-- at a place that has the year
module _ (plans : List (Entry Accepted)) (ys : List Year) (k : YearKey) (i : ℕ) (y : Year) (kept : AreKeptYears plans ys) (found : IsFound ys k i y) where
  pub runs_here : runs_of (runs_in ys) k ≡ y.records.items
  runs_here = runs_kept ys k y (found.here.at y ∙ ap (λ t. Some t) (sym found.is))

  put_is_set : (y' : Year) → y'.key ≡ y.key → put year_cmp kept_key y' ys ≡ set ys i y'
  put_is_set y' e = found.here.put y' (ap (λ t. year_cmp t k) (e ∙ found.key) ∙ tied_itself year_total k)

  pub year_here : IsYear plans y
  year_here = subst (IsYear plans) (sym found.is) (All-from_recursion (IsYear plans) ys kept.each i y found.here.within)

  some_here : HasRuns y
  some_here = subst HasRuns (sym found.is) (All-from_recursion HasRuns ys kept.some i y found.here.within)

  pub set_edit : (y' : Year) (records : List Record) (w : Work) → IsYearEdit plans y y' records w → 0 < length records → IsListEdit plans ys (set ys i y') (with_runs k records (runs_in ys)) w
  set_edit y' records w edit some =
      let runs = ap (runs_of (runs_in ys)) found.key ∙ runs_here in
      let done = put_edit plans ys y y' records w kept edit some runs in
      subst (λ t. IsListEdit plans ys t (with_runs k records (runs_in ys)) w) (put_is_set y' edit.key)
      (subst (λ t. IsListEdit plans ys (put year_cmp kept_key y' ys) (with_runs t records (runs_in ys)) w) found.key done)

  same_year : (y' : Year) → IsSameYear y y' → IsYear plans y'
  same_year y' same = record {
    kept = record {
      are = rw (same.outcomes, same.records) year_here.kept.are;
      bounded = rw same.outcomes year_here.kept.bounded;
      rising = rw same.records year_here.kept.rising;
      few = rw same.records year_here.kept.few;
    };
    own = rw (same.records, same.key) year_here.own;
  }

  -- a year put again with the content that it had
  pub set_same : (y' : Year) → IsSameYear y y' → IsSameList plans ys (set ys i y')
  set_same y' same =
      let e = put_is_set y' same.key in
      let runs : runs_in_year y' ≡ get_or (runs_in ys) i (runs_in_year y) = (λ j. record { key = same.key j; runs = same.records j }) ∙ ap runs_in_year found.is ∙ sym (get_or-map runs_in_year ys i y (runs_in_year y) found.here.within) in
      record {
        kept = record {
          rising = rw (← e) (put_rising year_cmp year_total kept_key y' ys kept.rising);
          each = rw (← e) (all_put year_cmp kept_key (IsYear plans) y' ys (same_year y' same) kept.each);
          some = rw (← e) (all_put year_cmp kept_key HasRuns y' ys (rw same.records some_here) kept.some);
        };
        years_are = map-set runs_in_year ys i y' ∙ ap (set (runs_in ys) i) runs ∙ set-get_or (runs_in ys) i (runs_in_year y);
      }

  -- a year taken away
  pub remove_edit : IsListEdit plans ys (remove ys i) (with_runs k [] (runs_in ys)) (record { runs = 0; steps = 0 })
  remove_edit =
      let e = found.here.without in
      record {
        kept = record {
          rising = rw (← e) (without_rising year_cmp year_total kept_key k ys kept.rising);
          each = rw (← e) (all_without year_cmp kept_key (IsYear plans) k ys kept.each);
          some = rw (← e) (all_without year_cmp kept_key HasRuns k ys kept.some);
        };
        years_are = ap runs_in (sym e) ∙ map_without year_cmp runs_key runs_in_year k ys;
        work_is = ap work_of (sym (jobs_with_runs (pick plans) (runs_in ys) k [] (runs_in ys) (quiet_years plans ys kept)));
      }
