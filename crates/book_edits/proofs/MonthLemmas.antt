-- The run that an edit means stands in its year.
use Rattle.std.proofs.Common.{◌≡◌, ℕ, List, [], ◌∷◌, Bool, true, false, if◌then◌else◌, Option, Some, None, IsSome, is_some, refl, sym, ap, subst, ◌∙◌, filter, cond, ◌+◌, ◌<◌, ◌≤◌, length, drop, get_or}
use Rattle.std.specs.List.{AllByRecursion}
use Rattle.std.specs.Ordering.{is_eq}
use Rattle.std.specs.declared.cmp.Ordering.TheVariants.{Less, Equal, Greater}
use Rattle.std.proofs.lemmas.Bool.{false≢true}
use Rattle.std.proofs.lemmas.Cmp.{tied_itself}
use Rattle.std.proofs.lemmas.List.{at_drop_all, at_drop_more}
use Rattle.rising_lists.specs.Keyed.{at_key, IsRising}
use Rattle.rising_lists.proofs.Laws.{at_key_without}
use Rattle.payroll_records.specs.declared.day.Day.{Day}
use Rattle.payroll_records.specs.declared.record.Key.{Key}
use Rattle.payroll_records.specs.declared.record.Record.{Record}
use Rattle.payroll_records.specs.declared.when.When.{When}
use Rattle.payroll_records.specs.declared.when.When.TheVariants as when
use Rattle.payroll_records.specs.Orders.{day_cmp}
use Rattle.payroll_records.specs.Tables.{key_of}
use Rattle.payroll_records.proofs.Laws.{day_total}
use Rattle.plan_calendar.specs.Picking.{Entry}
use Rattle.book_year.specs.Accepted.{Accepted}
use Rattle.book_year.specs.declared.year.Year.{Year}
use Rattle.book_year.specs.declared.year.YearKey.{YearKey}
use Rattle.book_year.specs.Records.{record_day, without_run}
use Rattle.book_year.specs.Years.{IsOwn, IsYear}
use Rattle.book_edits.specs.declared.in_month.InMonth.{InMonth}
use Rattle.book_edits.specs.declared.in_month.InMonth.TheVariants.{Empty, One, Several}
use Rattle.book_edits.specs.Books.{YearRuns, AreInOrder, in_month, is_in_month, only_one, run_at, runs_key, runs_of, runs_or_none, source_of, withdrawal, year_cmp, year_of}
use Rattle.book_edits.specs.Kept.{runs_in, runs_in_year}
use Rattle.book_edits.specs.private.Views.{one_more, with_one_more}
use Rattle.book_edits.proofs.ListLemmas.{found_each}
use Rattle.book_edits.proofs.YearsLemmas.{year_same}

-- what is found after some runs, with these to come
abbrev pub only_one_after : InMonth → List Record → InMonth
only_one_after Empty rs = only_one rs
only_one_after (One k) [] = One k
only_one_after (One k) (r ∷ rs) = Several
only_one_after Several rs = Several

more_first : (found : InMonth) (r : Record) (rs : List Record) → only_one_after (one_more found r) rs ≡ only_one_after found (r ∷ rs)
more_first Empty r [] = refl
more_first Empty r (s ∷ rs) = refl
more_first (One k) r rs = refl
more_first Several r rs = refl

more_test : (b : Bool) (found : InMonth) (r : Record) (rs : List Record) → only_one_after (if b then one_more found r else found) rs ≡ only_one_after found (if b then r ∷ rs else rs)
more_test true found r rs = more_first found r rs
more_test false found r rs = refl

-- one run more
pub month_more : (m : ℕ) (rs : List Record) (i : ℕ) (found : InMonth) (r : Record) → i < length rs → r ≡ get_or rs i r →
    only_one_after (with_one_more m found r) (filter (λ x. is_in_month m x.day) (drop (i + 1) rs)) ≡ only_one_after found (filter (λ x. is_in_month m x.day) (drop i rs))
month_more m rs i found r l e =
    let rest = filter (λ x. is_in_month m x.day) (drop (i + 1) rs) in
    let next : filter (λ x. is_in_month m x.day) (drop i rs) ≡ (if is_in_month m r.day then r ∷ rest else rest) =
    at_drop_more (filter (λ x. is_in_month m x.day)) rs i r l ∙ ap (λ (t : Record). if is_in_month m t.day then t ∷ rest else rest) (sym e) in
    more_test (is_in_month m r.day) found r rest ∙ ap (only_one_after found) (sym next)

-- after all runs
pub month_all : (m : ℕ) (rs : List Record) (i : ℕ) (found : InMonth) → length rs ≤ i → only_one_after found (filter (λ x. is_in_month m x.day) (drop i rs)) ≡ found
month_all m rs i found l = at_drop_all (λ t. only_one_after found (filter (λ x. is_in_month m x.day) t)) rs i l ∙ none found
  where
    none : (found : InMonth) → only_one_after found [] ≡ found
    none Empty = refl
    none (One k) = refl
    none Several = refl

-- ---- the runs of a year

rising_here : (years : List YearRuns) (k : YearKey) → AllByRecursion (λ y. IsRising day_cmp record_day y.runs) years → IsRising day_cmp record_day (runs_of years k)
rising_here [] k days = tt
rising_here (y ∷ ys) k days = elim (is_eq (year_cmp y.key k)) as (λ b. IsRising day_cmp record_day (runs_or_none (if b then Some y else at_key year_cmp runs_key ys k))) [
  | true ↦ days.0
  | false ↦ rising_here ys k days.1
]

-- the days of a year's runs rise
pub runs_rising : (years : List YearRuns) (k : YearKey) → AreInOrder years → IsRising day_cmp record_day (runs_of years k)
runs_rising years k order = rising_here years k order.days

-- a year's runs are its own
pub runs_own : (plans : List (Entry Accepted)) (ys : List Year) (k : YearKey) → AllByRecursion (IsYear plans) ys → AllByRecursion (IsOwn k) (runs_of (runs_in ys) k)
runs_own plans [] k each = tt
runs_own plans (y ∷ ys) k each = elim (year_cmp y.key k) as (λ o. year_cmp y.key k ≡ o → AllByRecursion (IsOwn k) (runs_or_none (if is_eq o then Some (runs_in_year y) else at_key year_cmp runs_key (runs_in ys) k))) [
  | Less ↦ λ e. runs_own plans ys k each.1
  | Equal ↦ λ e. subst (λ t. AllByRecursion (IsOwn t) y.records.items) (year_same y.key k e) each.0.own
  | Greater ↦ λ e. runs_own plans ys k each.1
] refl

-- ---- the only run of a month

module _ (P : Record → Type 0) where
  all_filter : (p : Record → Bool) (rs : List Record) → AllByRecursion P rs → AllByRecursion P (filter p rs)
  all_filter p [] all = tt
  all_filter p (r ∷ rs) all = elim (p r) as (λ b. AllByRecursion P (cond b (r ∷ filter p rs) (filter p rs))) [
    | true ↦ (all.0, all_filter p rs all.1)
    | false ↦ all_filter p rs all.1
  ]

  -- a run of which this holds has the key
  record HasRun (k : Key) : Type 0 where
    pub run : Record
    pub holds : P run
    pub key : key_of run ≡ k

  only_run : (rs : List Record) (k : Key) → AllByRecursion P rs → only_one rs ≡ One k → HasRun k
  only_run [] k all e = cc
  only_run (r ∷ []) k all e = record { run = r; holds = all.0; key = cc }
  only_run (r ∷ (s ∷ rs)) k all e = cc

  month_run : (m : ℕ) (rs : List Record) (k : Key) → AllByRecursion P rs → only_one (filter (λ r. is_in_month m r.day) rs) ≡ One k → HasRun k
  month_run m rs k all e = only_run (filter (λ r. is_in_month m r.day) rs) k (all_filter (λ r. is_in_month m r.day) rs all) e

all_two : (P Q : Record → Type 0) (rs : List Record) → AllByRecursion P rs → AllByRecursion Q rs → AllByRecursion (λ r. P r × Q r) rs
all_two P Q [] p q = tt
all_two P Q (r ∷ rs) p q = ((p.0, q.0), all_two P Q rs p.1 q.1)

pub some_from : {X : Type 0} (o : Option X) (x : X) → o ≡ Some x → IsSome o
some_from o x e = rw e refl

-- ---- the run that a change replaces

pub none_from : {X : Type 0} (o : Option X) → is_some o ≡ false → o ≡ None
none_from None e = refl
none_from (Some x) e = absurd (false≢true (sym e))

-- the new day is free once a run is taken away
pub record IsSource (rs : List Record) (from : Day) (day : Day) : Type 0 where
  pub there : IsSome (at_key day_cmp record_day rs from)
  pub free : at_key day_cmp record_day (without_run from rs) day ≡ None

source_same : (rs : List Record) (day : Day) → IsRising day_cmp record_day rs → IsSome (at_key day_cmp record_day rs day) → IsSource rs day day
source_same rs day rising some = record {
  there = some;
  free = at_key_without day_cmp day_total record_day rs day day rising ∙ ap (λ o. if is_eq o then None else at_key day_cmp record_day rs day) (tied_itself day_total day);
}

either : {X : Type 0} (b : Bool) (o : Option X) → o ≡ None → (if b then None else o) ≡ None
either true o e = refl
either false o e = e

source_other : (rs : List Record) (from day : Day) → IsRising day_cmp record_day rs → IsSome (at_key day_cmp record_day rs from) → at_key day_cmp record_day rs day ≡ None → IsSource rs from day
source_other rs from day rising some none = record {
  there = some;
  free = at_key_without day_cmp day_total record_day rs from day rising ∙ either (is_eq (day_cmp from day)) (at_key day_cmp record_day rs day) none;
}

pub source_is : (years : List YearRuns) (r : Record) (k : Key) → AreInOrder years → source_of years r ≡ One k → IsSource (runs_of years (year_of (key_of r))) k.day r.day
source_is years r k order e =
    let rs = runs_of years (year_of (key_of r)) in
    let rising = runs_rising years (year_of (key_of r)) order in
    elim (is_some (run_at years (key_of r))) as (λ b. is_some (run_at years (key_of r)) ≡ b → (if b then One (key_of r) else in_month years r.employee r.day.year r.day.month) ≡ One k → IsSource rs k.day r.day) [
      | true ↦ λ s f.
          let same : key_of r ≡ k = cc in
          subst (λ (t : Key). IsSource rs t.day r.day) same (source_same rs r.day rising s)
      | false ↦ λ s f.
          let only = month_run (λ x. at_key day_cmp record_day rs x.day ≡ Some x) r.day.month rs k (found_each day_cmp day_total record_day rs rising) f in
          let there : IsSome (at_key day_cmp record_day rs k.day) = subst (λ (t : Key). IsSome (at_key day_cmp record_day rs t.day)) only.key (some_from _ only.run only.holds) in
          source_other rs k.day r.day rising there (none_from (run_at years (key_of r)) s)
    ] refl e

-- ---- the run that is withdrawn

pub withdrawal_is : (plans : List (Entry Accepted)) (ys : List Year) (e : List ℕ) (w : When) (k : Key) → AreInOrder (runs_in ys) → AllByRecursion (IsYear plans) ys → withdrawal (runs_in ys) e w ≡ One k → IsSome (run_at (runs_in ys) k)
withdrawal_is plans ys e (when.Day d) k order each is =
    elim (is_some (run_at (runs_in ys) (record { employee = e; day = d }))) as (λ b. is_some (run_at (runs_in ys) (record { employee = e; day = d })) ≡ b → (if b then One (record { employee = e; day = d }) else Empty) ≡ One k → IsSome (run_at (runs_in ys) k)) [
      | true ↦ λ s f.
          let same : (record { employee = e; day = d }) ≡ k = cc in
          subst (λ (t : Key). IsSome (run_at (runs_in ys) t)) same s
      | false ↦ λ s f. cc
    ] refl is
withdrawal_is plans ys e (when.Month m) k order each is =
    let key : YearKey = record { employee = e; year = m.year } in
    let rs = runs_of (runs_in ys) key in
    let found = found_each day_cmp day_total record_day rs (runs_rising (runs_in ys) key order) in
    let only = month_run (λ x. (at_key day_cmp record_day rs x.day ≡ Some x) × IsOwn key x) m.month rs k (all_two (λ x. at_key day_cmp record_day rs x.day ≡ Some x) (IsOwn key) rs found (runs_own plans ys key each)) is in
    let of_year : year_of (key_of only.run) ≡ key = λ i. record { employee = only.holds.1.employee i; year = only.holds.1.year i } in
    let there : run_at (runs_in ys) (key_of only.run) ≡ Some only.run = ap (λ t. at_key day_cmp record_day (runs_of (runs_in ys) t) only.run.day) of_year ∙ only.holds.0 in
    subst (λ (t : Key). IsSome (run_at (runs_in ys) t)) only.key (some_from _ only.run there)
