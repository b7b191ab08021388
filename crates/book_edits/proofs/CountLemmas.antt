-- How many runs there are after an edit, and how it counts its steps.
use Rattle.std.proofs.Common.{◌≡◌, ℕ, ◌+◌, ◌<◌, ◌≤◌, List, [], ◌∷◌, length, Option, Some, None, IsSome, IsNone, Err, refl, sym, arith}
use Rattle.std.proofs.lemmas.Bool.{false≢true}
use Rattle.std.proofs.lemmas.List.{nil_from_length}
use Rattle.rising_lists.specs.Keyed.{at_key, IsRising}
use Rattle.payroll_records.specs.declared.day.Day.{Day}
use Rattle.payroll_records.specs.declared.record.Key.{Key}
use Rattle.payroll_records.specs.declared.record.Record.{Record}
use Rattle.payroll_records.specs.Orders.{day_cmp}
use Rattle.payroll_records.specs.Tables.{key_of}
use Rattle.payroll_records.proofs.Laws.{day_total}
use Rattle.plan_calendar.specs.Picking.{Entry}
use Rattle.book_year.specs.Accepted.{Accepted}
use Rattle.book_year.specs.declared.outcome.Work.{Work}
use Rattle.book_year.specs.declared.year.YearKey.{YearKey}
use Rattle.book_year.specs.Records.{put_run, record_day, without_run}
use Rattle.book_year.proofs.Laws.{rising_without}
use Rattle.book_edits.specs.declared.refusal.EditRefusal.{EditRefusal}
use Rattle.book_edits.specs.declared.refusal.EditRefusal.TheVariants as refusal
use Rattle.book_edits.specs.declared.years.Years.{Years}
use Rattle.book_edits.specs.Books.{YearRuns, AreInOrder, added, changed, run_at, run_count, runs_key, runs_of, runs_or_none, with_runs, withdrawn, year_cmp, year_of}
use Rattle.book_edits.specs.Kept.{AreYears, years_of}
use Rattle.book_edits.specs.Refusals.{CountsEdit, most_records}
use Rattle.book_edits.specs.private.Views.{AreKeptYears}
use Rattle.book_edits.proofs.ListLemmas.{length_put, length_without, sum_put, sum_without, weight}
use Rattle.book_edits.proofs.MonthLemmas.{IsSource, runs_rising}
use Rattle.book_edits.proofs.YearsLemmas.{year_total}

-- ---- how many runs there are

abbrev runs_length : YearRuns → ℕ
runs_length y = length y.runs

weight_is : (o : Option YearRuns) → weight runs_length o ≡ length (runs_or_none o)
weight_is None = refl
weight_is (Some y) = refl

-- the runs of one year come in place of those that it had
pub count_with_runs : (k : YearKey) (rs : List Record) (years : List YearRuns) → IsRising year_cmp runs_key years → run_count (with_runs k rs years) + length (runs_of years k) ≡ run_count years + length rs
count_with_runs k [] years rising =
    omega (arith, sum_without year_cmp year_total runs_key runs_length k years, weight_is (at_key year_cmp runs_key years k))
count_with_runs k (r ∷ rs) years rising =
    omega (arith, sum_put year_cmp year_total runs_key runs_length (record { key = k; runs = r ∷ rs }) years rising, weight_is (at_key year_cmp runs_key years k))

pub none_is : {X : Type 0} (o : Option X) → IsNone o → o ≡ None
none_is None e = refl
none_is (Some x) e = absurd (false≢true (sym e))

record HasValue {X : Type 0} (o : Option X) : Type 0 where
  pub value : X
  pub is : o ≡ Some value

some_is : {X : Type 0} (o : Option X) → IsSome o → HasValue o
some_is None e = absurd (false≢true e)
some_is (Some x) e = record { value = x; is = refl }

pub count_added : (r : Record) (years : List YearRuns) → AreInOrder years → IsNone (run_at years (key_of r)) → run_count (added r years) ≡ run_count years + 1
count_added r years order free =
    let k = year_of (key_of r) in
    let rs = runs_of years k in
    let longer = length_put day_cmp day_total record_day r rs (runs_rising years k order) (none_is (run_at years (key_of r)) free) in
    omega (arith, count_with_runs k (put_run r rs) years order.rising, longer)

pub count_withdrawn : (k : Key) (years : List YearRuns) → AreInOrder years → IsSome (run_at years k) → run_count (withdrawn k years) + 1 ≡ run_count years
count_withdrawn k years order there =
    let rs = runs_of years (year_of k) in
    let s = some_is (run_at years k) there in
    let shorter = length_without day_cmp day_total record_day k.day s.value rs s.is in
    omega (arith, count_with_runs (year_of k) (without_run k.day rs) years order.rising, shorter)

pub count_changed : (from : Day) (r : Record) (years : List YearRuns) → AreInOrder years → IsSource (runs_of years (year_of (key_of r))) from r.day → run_count (changed from r years) ≡ run_count years
count_changed from r years order source =
    let k = year_of (key_of r) in
    let rs = runs_of years k in
    let rising = runs_rising years k order in
    let s = some_is (at_key day_cmp record_day rs from) source.there in
    let shorter = length_without day_cmp day_total record_day from s.value rs s.is in
    let longer = length_put day_cmp day_total record_day r (without_run from rs) (rising_without from rs rising) source.free in
    omega (arith, count_with_runs k (put_run r (without_run from rs)) years order.rising, shorter, longer)

-- without its only run a year has none, and without one of several it has some
pub none_left : (d : Day) (rs : List Record) → IsSome (at_key day_cmp record_day rs d) → length rs ≡ 1 → without_run d rs ≡ []
none_left d rs there one =
    let s = some_is (at_key day_cmp record_day rs d) there in
    nil_from_length (without_run d rs) (omega (arith, length_without day_cmp day_total record_day d s.value rs s.is))

pub some_left : (d : Day) (rs : List Record) → IsSome (at_key day_cmp record_day rs d) → (length rs ≡ 1 → ⊥) → 0 < length (without_run d rs)
some_left d rs there more =
    let s = some_is (at_key day_cmp record_day rs d) there in
    omega (arith, length_without day_cmp day_total record_day d s.value rs s.is)

-- ---- what is kept, with the number of runs and without

pub kept_of : (plans : List (Entry Accepted)) (ys : Years) → AreYears plans ys → AreKeptYears plans ys.list.items
kept_of plans ys h = record { rising = h.rising; each = h.each; some = h.some }

pub years_from : (plans : List (Entry Accepted)) (ys : Years) → AreKeptYears plans ys.list.items → ys.count ≡ run_count (years_of ys) → ys.count ≤ most_records → AreYears plans ys
years_from plans ys h count few = record { rising = h.rising; each = h.each; some = h.some; count = count; few = few }

-- ---- steps

-- a refusal without a step
pub counts_none : (x : EditRefusal) (at total : ℕ) → CountsEdit {T = Work} (Err x) at at total
counts_none (refusal.Present k) at total = refl
counts_none (refusal.Absent e w) at total = refl
counts_none (refusal.Several e m) at total = refl
counts_none refusal.Records at total = refl
counts_none refusal.Plans at total = refl
counts_none (refusal.NoPlanThere d) at total = refl
counts_none (refusal.Memory e) at total = (omega arith, omega arith)
