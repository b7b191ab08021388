-- Edits keep the runs of all employees as every book has them.
use Rattle.std.proofs.Common.{◌≡◌, ℕ, ◌+◌, ◌<◌, ◌≤◌, List, [], ◌∷◌, length, Bool, true, false, if◌then◌else◌, refl, sym, subst, arith, filter}
use Rattle.std.specs.Prelude.{Option, Some, None, IsSome, is_some}
use Rattle.std.specs.List.{AllByRecursion}
use Rattle.std.specs.Ordering.{is_eq}
use Rattle.std.specs.declared.cmp.Ordering.{Ordering}
use Rattle.std.specs.declared.cmp.Ordering.TheVariants.{Less, Equal, Greater}
use Rattle.std.proofs.lemmas.Cmp.{tied_itself}
use Rattle.rising_lists.specs.Keyed.{at_key, without, IsRising}
use Rattle.rising_lists.proofs.Laws.{put_rising, without_rising}
use Rattle.payroll_records.specs.declared.day.Day.{Day}
use Rattle.payroll_records.specs.declared.record.Key.{Key}
use Rattle.payroll_records.specs.declared.record.Record.{Record}
use Rattle.payroll_records.specs.Orders.{day_cmp}
use Rattle.payroll_records.specs.Tables.{key_of}
use Rattle.payroll_records.proofs.Laws.{day_total}
use Rattle.saved_items.specs.SavedBooks.{IsRun}
use Rattle.book_year.specs.declared.year.YearKey.{YearKey}
use Rattle.book_year.specs.Records.{put_run, record_day, without_run}
use Rattle.book_year.specs.Years.{IsOwn}
use Rattle.book_year.proofs.Laws.{rising_put, rising_without}
use Rattle.book_edits.specs.declared.in_month.InMonth.{InMonth}
use Rattle.book_edits.specs.declared.in_month.InMonth.TheVariants.{Empty, One, Several}
use Rattle.book_edits.specs.Books.{AreInOrder, YearRuns, added, changed, changed_from, in_month, is_in_month, loaded, only_one}
use Rattle.book_edits.specs.Books.{run_at, run_count, runs_key, runs_of, runs_or_none, source_of, with_runs, withdrawn}
use Rattle.book_edits.specs.Books.{withdrawn_from, year_cmp, year_of}
use Rattle.book_edits.proofs.Laws.{all_put, all_without, length_without, runs_rising, sum_put, sum_without, year_same, year_total}
use Rattle.script_steps.proofs.RunLemmas.{put_most}

-- the runs of the year are its own, and have texts
pub record HasSoundRuns (y : YearRuns) : Type 0 where
  pub own : AllByRecursion (IsOwn y.key) y.runs
  pub texts : AllByRecursion IsRun y.runs

-- the years stand in order, with sound runs
pub record AreSoundYears (years : List YearRuns) : Type 0 where
  pub order : AreInOrder years
  pub runs : AllByRecursion HasSoundRuns years

-- ---- the runs of one year

runs_own : (years : List YearRuns) (k : YearKey) → AllByRecursion HasSoundRuns years
    → AllByRecursion (IsOwn k) (runs_of years k)
runs_own [] k h = tt
runs_own (y ∷ years) k h = elim (year_cmp y.key k) as (λ o. year_cmp y.key k ≡ o
    → AllByRecursion (IsOwn k) (runs_or_none (if is_eq o then Some y else at_key year_cmp runs_key years k))) [
      | Less ↦ λ e. runs_own years k h.1
      | Equal ↦ λ e. subst (λ t. AllByRecursion (IsOwn t) y.runs) (year_same y.key k e) h.0.own
      | Greater ↦ λ e. runs_own years k h.1
    ] refl

runs_texts : (years : List YearRuns) (k : YearKey) → AllByRecursion HasSoundRuns years
    → AllByRecursion IsRun (runs_of years k)
runs_texts [] k h = tt
runs_texts (y ∷ years) k h = elim (is_eq (year_cmp y.key k))
    as (λ b. AllByRecursion IsRun (runs_or_none (if b then Some y else at_key year_cmp runs_key years k))) [
      | true ↦ h.0.texts
      | false ↦ runs_texts years k h.1
    ]

-- ---- an edit of one year

abbrev RunsRise : YearRuns → Type 0
RunsRise y = IsRising day_cmp record_day y.runs

abbrev HaveARun : YearRuns → Type 0
HaveARun y = 0 < length y.runs

-- a year with other runs, which are sound
with_sound : (k : YearKey) (rs : List Record) (years : List YearRuns) → AreSoundYears years
    → IsRising day_cmp record_day rs → AllByRecursion (IsOwn k) rs → AllByRecursion IsRun rs
    → AreSoundYears (with_runs k rs years)
with_sound k [] years h rising own texts = record {
  order = record {
    rising = without_rising year_cmp year_total runs_key k years h.order.rising;
    days = all_without year_cmp runs_key RunsRise k years h.order.days;
    some = all_without year_cmp runs_key HaveARun k years h.order.some;
  };
  runs = all_without year_cmp runs_key HasSoundRuns k years h.runs;
}
with_sound k (r ∷ rs) years h rising own texts =
    let y : YearRuns = record { key = k; runs = r ∷ rs } in record {
      order = record {
        rising = put_rising year_cmp year_total runs_key y years h.order.rising;
        days = all_put year_cmp runs_key RunsRise y years rising h.order.days;
        some = all_put year_cmp runs_key HaveARun y years (omega arith) h.order.some;
      };
      runs = all_put year_cmp runs_key HasSoundRuns y years (record { own = own; texts = texts }) h.runs;
    }

abbrev runs_length : YearRuns → ℕ
runs_length y = length y.runs

-- its runs come in place of those that it had
with_count : (k : YearKey) (rs : List Record) (years : List YearRuns) → IsRising year_cmp runs_key years
    → run_count (with_runs k rs years) + length (runs_of years k) ≡ run_count years + length rs
with_count k rs years rising = by rs (at_key year_cmp runs_key years k) refl
  where
    by : (rs : List Record) (o : Option YearRuns) → at_key year_cmp runs_key years k ≡ o
        → run_count (with_runs k rs years) + length (runs_or_none o) ≡ run_count years + length rs
    by [] None e = let s = rw e at (sum_without year_cmp year_total runs_key runs_length k years) in omega (arith, s)
    by [] (Some y) e = let s = rw e at (sum_without year_cmp year_total runs_key runs_length k years) in omega (arith, s)
    by (r ∷ rs) None e =
        let s = rw e at (sum_put year_cmp year_total runs_key runs_length (record { key = k; runs = r ∷ rs }) years rising) in
        omega (arith, s)
    by (r ∷ rs) (Some y) e =
        let s = rw e at (sum_put year_cmp year_total runs_key runs_length (record { key = k; runs = r ∷ rs }) years rising) in
        omega (arith, s)

-- ---- a run added

pub add_sound : (r : Record) (years : List YearRuns) → IsRun r → AreSoundYears years → AreSoundYears (added r years)
add_sound r years text h =
    let k = year_of (key_of r) in
    let rs = runs_of years k in
    with_sound k (put_run r rs) years h (rising_put r rs (runs_rising years k h.order))
    (all_put day_cmp record_day (IsOwn k) r rs (record { employee = refl; year = refl }) (runs_own years k h.runs))
    (all_put day_cmp record_day IsRun r rs text (runs_texts years k h.runs))

pub add_count : (r : Record) (years : List YearRuns) → AreSoundYears years → run_count (added r years) ≤ run_count years + 1
add_count r years h =
    let k = year_of (key_of r) in
    let rs = runs_of years k in
    omega (arith, with_count k (put_run r rs) years h.order.rising, put_most day_cmp record_day r rs)

-- several
pub load_sound : (rs : List Record) (years : List YearRuns) → AllByRecursion IsRun rs → AreSoundYears years
    → AreSoundYears (loaded rs years)
load_sound [] years texts h = h
load_sound (r ∷ rs) years texts h = load_sound rs (added r years) texts.1 (add_sound r years texts.0 h)

pub load_count : (rs : List Record) (years : List YearRuns) → AllByRecursion IsRun rs → AreSoundYears years
    → run_count (loaded rs years) ≤ run_count years + length rs
load_count [] years texts h = omega arith
load_count (r ∷ rs) years texts h =
    omega (arith, load_count rs (added r years) texts.1 (add_sound r years texts.0 h), add_count r years h)

-- ---- a run taken away

pub without_most : {K X : Type 0} (cmp : K → K → Ordering) (key : X → K) (k : K) (xs : List X)
    → length (without cmp key k xs) ≤ length xs
without_most cmp key k [] = omega arith
without_most cmp key k (x ∷ xs) = elim (is_eq (cmp (key x) k))
    as (λ b. length (if b then xs else x ∷ without cmp key k xs) ≤ length (x ∷ xs)) [
      | true ↦ omega arith
      | false ↦ omega (arith, without_most cmp key k xs)
    ]

withdraw_sound : (k : Key) (years : List YearRuns) → AreSoundYears years → AreSoundYears (withdrawn k years)
withdraw_sound k years h =
    let y = year_of k in
    let rs = runs_of years y in
    with_sound y (without_run k.day rs) years h (rising_without k.day rs (runs_rising years y h.order))
    (all_without day_cmp record_day (IsOwn y) k.day rs (runs_own years y h.runs))
    (all_without day_cmp record_day IsRun k.day rs (runs_texts years y h.runs))

withdraw_count : (k : Key) (years : List YearRuns) → AreSoundYears years → run_count (withdrawn k years) ≤ run_count years
withdraw_count k years h =
    let y = year_of k in
    let rs = runs_of years y in
    omega (arith, with_count y (without_run k.day rs) years h.order.rising, without_most day_cmp record_day k.day rs)

-- the run that a withdrawal means
pub withdrawn_sound : (m : InMonth) (years : List YearRuns) → AreSoundYears years → AreSoundYears (withdrawn_from m years)
withdrawn_sound Empty years h = h
withdrawn_sound (One k) years h = withdraw_sound k years h
withdrawn_sound Several years h = h

pub withdrawn_count : (m : InMonth) (years : List YearRuns) → AreSoundYears years
    → run_count (withdrawn_from m years) ≤ run_count years
withdrawn_count Empty years h = omega arith
withdrawn_count (One k) years h = withdraw_count k years h
withdrawn_count Several years h = omega arith

-- ---- a run changed

change_sound : (from : Day) (r : Record) (years : List YearRuns) → IsRun r → AreSoundYears years
    → AreSoundYears (changed from r years)
change_sound from r years text h =
    let k = year_of (key_of r) in
    let rs = runs_of years k in
    let left = without_run from rs in
    with_sound k (put_run r left) years h (rising_put r left (rising_without from rs (runs_rising years k h.order)))
    (all_put day_cmp record_day (IsOwn k) r left (record { employee = refl; year = refl })
    (all_without day_cmp record_day (IsOwn k) from rs (runs_own years k h.runs)))
    (all_put day_cmp record_day IsRun r left text (all_without day_cmp record_day IsRun from rs (runs_texts years k h.runs)))

-- there are as many runs as before, where one stands at the day
change_count : (from : Day) (r : Record) (years : List YearRuns) → AreSoundYears years
    → IsSome (at_key day_cmp record_day (runs_of years (year_of (key_of r))) from)
    → run_count (changed from r years) ≤ run_count years
change_count from r years h there = by (at_key day_cmp record_day (runs_of years (year_of (key_of r))) from) refl there
  where
    by : (o : Option Record) → at_key day_cmp record_day (runs_of years (year_of (key_of r))) from ≡ o → IsSome o
        → run_count (changed from r years) ≤ run_count years
    by None e s = absurd (cc s)
    by (Some x) e s =
        let k = year_of (key_of r) in
        let rs = runs_of years k in
        let left = without_run from rs in
        omega (
          arith,
          with_count k (put_run r left) years h.order.rising,
          put_most day_cmp record_day r left,
          length_without day_cmp day_total record_day from x rs e,
        )

-- the only run of a month stands at its day
in_both : (b : Bool) (r : Record) (o : Option Record) → IsSome o → IsSome (if b then Some r else o)
in_both true r o h = refl
in_both false r o h = h

only_here : (test : Record → Bool) (rs : List Record) (k : Key) → only_one (filter test rs) ≡ One k
    → IsSome (at_key day_cmp record_day rs k.day)
only_here test [] k e = cc
only_here test (r ∷ rs) k e = elim (test r)
    as (λ b. only_one (if b then r ∷ filter test rs else filter test rs) ≡ One k
    → IsSome (at_key day_cmp record_day (r ∷ rs) k.day)) [
      | true ↦ λ f. this (filter test rs) f
      | false ↦ λ f. in_both (is_eq (day_cmp r.day k.day)) r (at_key day_cmp record_day rs k.day) (only_here test rs k f)
    ] e
  where
    this : (more : List Record) → only_one (r ∷ more) ≡ One k → IsSome (at_key day_cmp record_day (r ∷ rs) k.day)
    this [] f =
        let same : key_of r ≡ k = cc in
        subst (λ (t : Key). IsSome (at_key day_cmp record_day (r ∷ rs) t.day)) same
        (subst (λ o. IsSome (if is_eq o then Some r else at_key day_cmp record_day rs r.day))
        (sym (tied_itself day_total r.day)) refl)
    this (s ∷ more) f = cc

-- the run that a change replaces stands at its day
source_here : (years : List YearRuns) (r : Record) (k : Key) → source_of years r ≡ One k
    → IsSome (at_key day_cmp record_day (runs_of years (year_of (key_of r))) k.day)
source_here years r k e = by (is_some (run_at years (key_of r))) refl e
  where
    by : (b : Bool) → is_some (run_at years (key_of r)) ≡ b
        → (if b then One (key_of r) else in_month years r.employee r.day.year r.day.month) ≡ One k
        → IsSome (at_key day_cmp record_day (runs_of years (year_of (key_of r))) k.day)
    by true there f =
        let same : key_of r ≡ k = cc in
        subst (λ (t : Key). IsSome (at_key day_cmp record_day (runs_of years (year_of (key_of r))) t.day)) same there
    by false there f = only_here (λ x. is_in_month r.day.month x.day) (runs_of years (year_of (key_of r))) k f

pub changed_sound : (m : InMonth) (r : Record) (years : List YearRuns) → IsRun r → AreSoundYears years
    → AreSoundYears (changed_from m r years)
changed_sound Empty r years text h = h
changed_sound (One k) r years text h = change_sound k.day r years text h
changed_sound Several r years text h = h

pub changed_count : (m : InMonth) (r : Record) (years : List YearRuns) → source_of years r ≡ m → AreSoundYears years
    → run_count (changed_from m r years) ≤ run_count years
changed_count Empty r years e h = omega arith
changed_count (One k) r years e h = change_count k.day r years h (source_here years r k e)
changed_count Several r years e h = omega arith
