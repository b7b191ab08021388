-- What an edit of a year at its place makes of all years.
use Rattle.std.proofs.Common.{◌≡◌, ℕ, ◌<◌, List, [], length, sym, ap, subst, ◌∙◌, set, Result, Ok, Err, IfOk, OnErr}
use Rattle.std.specs.List.{insert, remove}
use Rattle.rising_lists.specs.Places.{Misses}
use Rattle.payroll_records.specs.declared.record.Record.{Record}
use Rattle.plan_calendar.specs.Picking.{Entry, pick}
use Rattle.book_year.specs.Accepted.{Accepted}
use Rattle.book_year.specs.declared.outcome.Work.{Work}
use Rattle.book_year.specs.declared.year.Year.{Year}
use Rattle.book_year.specs.declared.year.YearKey.{YearKey}
use Rattle.book_year.specs.Jobs.{Counts, total_cost}
use Rattle.book_year.specs.YearClauses.{IsYearEdit, IsSameYear, edit_cost}
use Rattle.book_year.specs.Years.{year_jobs}
use Rattle.book_edits.specs.Books.{with_edited_year, runs_of, with_runs, year_cmp}
use Rattle.book_edits.specs.Kept.{kept_key, runs_in}
use Rattle.book_edits.specs.private.Views.{AreKeptYears, IsListEdit, IsSameList, list_cost}
use Rattle.book_edits.proofs.YearsLemmas.{IsFound, insert_edit, jobs_with_runs, quiet_years, remove_edit, runs_here, runs_missed, set_edit, set_same}

-- an edit of a year costs what its new jobs cost
pub cost_edited : (plans : List (Entry Accepted)) (ys : List Year) (k : YearKey) (y : Year) (edit : List Record → List Record) → AreKeptYears plans ys → runs_of (runs_in ys) k ≡ y.records.items →
    list_cost plans ys (with_edited_year k edit (runs_in ys)) ≡ edit_cost plans y (edit y.records.items)
cost_edited plans ys k y edit kept runs =
    ap total_cost (jobs_with_runs (pick plans) (runs_in ys) k (edit (runs_of (runs_in ys) k)) (runs_in ys) (quiet_years plans ys kept))
    ∙ ap (λ t. total_cost (year_jobs (pick plans) (pick plans) t (edit t))) runs

-- a year that is taken away costs nothing
pub cost_none : (plans : List (Entry Accepted)) (ys : List Year) (k : YearKey) (edit : List Record → List Record) → AreKeptYears plans ys → edit (runs_of (runs_in ys) k) ≡ [] → list_cost plans ys (with_edited_year k edit (runs_in ys)) ≡ 0
cost_none plans ys k edit kept none =
    ap total_cost (jobs_with_runs (pick plans) (runs_in ys) k (edit (runs_of (runs_in ys) k)) (runs_in ys) (quiet_years plans ys kept))
    ∙ ap (λ t. total_cost (year_jobs (pick plans) (pick plans) (runs_of (runs_in ys) k) t)) none

-- without its last run the year goes
pub removed_at : (plans : List (Entry Accepted)) (ys : List Year) (k : YearKey) (i : ℕ) (y : Year) (edit : List Record → List Record) → AreKeptYears plans ys → IsFound ys k i y → edit (runs_of (runs_in ys) k) ≡ [] →
    IsListEdit plans ys (remove ys i) (with_edited_year k edit (runs_in ys)) (record { runs = 0; steps = 0 })
removed_at plans ys k i y edit kept found none =
    subst (λ t. IsListEdit plans ys (remove ys i) (with_runs k t (runs_in ys)) (record { runs = 0; steps = 0 })) (sym none) (remove_edit plans ys k i y kept found)

module _ {E : Type 0} (plans : List (Entry Accepted)) (ys : List Year) (k : YearKey) (i : ℕ) (y y' : Year) (r : Result Work E) (edit : List Record → List Record) (kept : AreKeptYears plans ys) where
  -- at a place that has the year
  module _ (found : IsFound ys k i y) where
    pub edited_at : IfOk r (IsYearEdit plans y y' (edit y.records.items)) → 0 < length (edit y.records.items) → IfOk r (IsListEdit plans ys (set ys i y') (with_edited_year k edit (runs_in ys)))
    edited_at h some =
        subst (λ t. IfOk r (IsListEdit plans ys (set ys i y') (with_runs k (edit t) (runs_in ys)))) (sym (runs_here plans ys k i y kept found)) (by r h)
      where
        by : (r : Result Work E) → IfOk r (IsYearEdit plans y y' (edit y.records.items)) → IfOk r (IsListEdit plans ys (set ys i y') (with_runs k (edit y.records.items) (runs_in ys)))
        by (Ok w) h = set_edit plans ys k i y kept found y' (edit y.records.items) w h some
        by (Err e) h = tt

    pub same_at : OnErr r (IsSameYear y y') → OnErr r (IsSameList plans ys (set ys i y'))
    same_at h = by r h
      where
        by : (r : Result Work E) → OnErr r (IsSameYear y y') → OnErr r (IsSameList plans ys (set ys i y'))
        by (Ok w) h = tt
        by (Err e) h = set_same plans ys k i y kept found y' h

    pub counted_at : (before now : ℕ) → Counts r before now (edit_cost plans y (edit y.records.items)) → Counts r before now (list_cost plans ys (with_edited_year k edit (runs_in ys)))
    counted_at before now h = subst (λ t. Counts r before now t) (sym (cost_edited plans ys k y edit kept (runs_here plans ys k i y kept found))) h

  -- where no year has the key, a new one is edited
  module _ (missed : Misses year_cmp kept_key ys k i) (key : y.key ≡ k) (none : y.records.items ≡ []) where
    pub runs_none : runs_of (runs_in ys) k ≡ y.records.items
    runs_none = runs_missed ys k missed.at ∙ sym none

    pub edited_in : (w : Work) → IsYearEdit plans y y' (edit y.records.items) w → 0 < length (edit y.records.items) → IsListEdit plans ys (insert ys i y') (with_edited_year k edit (runs_in ys)) w
    edited_in w h some =
        let there = subst (λ t. Misses year_cmp kept_key ys t i) (sym key) missed in
        let done = insert_edit plans ys y y' i (edit y.records.items) w kept there none h some in
        subst (λ t. IsListEdit plans ys (insert ys i y') (with_runs k (edit t) (runs_in ys)) w) (sym runs_none)
        (subst (λ t. IsListEdit plans ys (insert ys i y') (with_runs t (edit y.records.items) (runs_in ys)) w) key done)

    pub counted_in : (before now : ℕ) → Counts r before now (edit_cost plans y (edit y.records.items)) → Counts r before now (list_cost plans ys (with_edited_year k edit (runs_in ys)))
    counted_in before now h = subst (λ t. Counts r before now t) (sym (cost_edited plans ys k y edit kept runs_none)) h
