-- The years tried so far.
use Rattle.std.proofs.Common.{◌≡◌, ℕ, ◌+◌, ◌<◌, List, [], ◌∷◌, ◌++◌, map, length, get_or, take, Some, None, sym, ap, ap₂, subst, ◌∙◌, arith}
use Rattle.std.specs.List.{AllByRecursion, flat_map}
use Rattle.std.proofs.lemmas.Grind.{flat_map-append}
use Rattle.std.proofs.lemmas.List.{append-nil, length-map, map-append, take_more}
use Rattle.std.proofs.lemmas.List.Elements.{All-from_recursion}
use Rattle.rising_lists.specs.Keyed.{IsRising}
use Rattle.plan_calendar.specs.Picking.{Entry}
use Rattle.book_year.specs.Accepted.{Accepted}
use Rattle.book_year.specs.declared.outcome.State.{State}
use Rattle.book_year.specs.declared.outcome.State.TheVariants as state
use Rattle.book_year.specs.declared.year.Year.{Year}
use Rattle.book_year.specs.declared.year.YearKey.{YearKey}
use Rattle.book_year.specs.Jobs.{total_cost}
use Rattle.book_year.specs.Kept.{kept}
use Rattle.book_year.specs.Rows.{Planned, Row, done_outputs, year_rows}
use Rattle.book_year.specs.Years.{IsOwn, IsYear, year_jobs}
use Rattle.book_year.proofs.Laws.{rows_length}
use Rattle.book_edits.specs.Books.{year_cmp}
use Rattle.book_edits.specs.Kept.{kept_key, runs_in, runs_in_year}
use Rattle.book_edits.specs.declared.redone.RedoneYear.{RedoneYear}
use Rattle.book_edits.specs.RedoneClauses.{New, IsYearRedone, YearKept, with_new}
use Rattle.book_edits.proofs.Laws.{IsRedoing, redoing_more}
use Rattle.recalc_engine.specs.MonthRows.{keyed_row, keyed_rows}
use Rattle.recalc_engine.specs.KeptRows.{rows_kept_in}
use Rattle.recalc_engine.specs.RowLaws.{AreNamed, HasNames, HaveNames}
use Rattle.recalc_engine.proofs.Laws.{no_names, rows_named, year_kept_by}
use Rattle.what_if.specs.declared.trial.TrialRow.{TrialRow}
use Rattle.what_if.specs.Changes.{state_outputs}
use Rattle.what_if.specs.private.YearViews.{ArePlanned, HasOutcomes, IsNamed, changes, year_changes}

-- ---- the outputs of a year's runs have different names

named_of : (s : State) → AreNamed (done_outputs s) → HaveNames (state_outputs s)
named_of state.NoPlan h = no_names
named_of (state.Blocked b) h = no_names
named_of (state.Done vs) h = h

named_kept : (k : YearKey) (rs : List Row) → AllByRecursion HasNames (map (keyed_row k) rs) →
    AllByRecursion IsNamed (map kept rs)
named_kept k [] h = tt
named_kept k (r ∷ rs) h = (named_of r.state h.0, named_kept k rs h.1)

-- a year that is kept where these are the plans has an outcome for each record
pub has_outcomes : (p : Planned) (y : Year) → ArePlanned p → YearKept p y → HasOutcomes y
has_outcomes p y planned h =
    let rs = y.records.items in
    record {
      paired = omega (arith, ap length h.are, length-map (year_rows p rs) kept, rows_length p [] rs);
      named = subst (AllByRecursion IsNamed) (sym h.are)
          (named_kept y.key (year_rows p rs) (rows_named y.key p planned [] rs));
    }

-- the year at a place is kept
pub year_here : (plans : List (Entry Accepted)) (ys : List Year) (i : ℕ) (y : Year) →
    AllByRecursion (IsYear plans) ys → i < length ys →
    y ≡ get_or ys i y → IsYear plans y
year_here plans ys i y each l is = subst (IsYear plans) (sym is) (All-from_recursion (IsYear plans) ys each i y l)

-- ---- what differs in a year

new_rows : (q : Planned) (y : Year) (new : New) → AllByRecursion (IsOwn y.key) y.records.items →
    YearKept q (with_new y new) →
    rows_kept_in (with_new y new) ≡ keyed_rows q (runs_in_year y)
new_rows q y None own kept = year_kept_by q y own kept
new_rows q y (Some outcomes) own kept = year_kept_by q (record y { outcomes = outcomes }) own kept

-- the rows of a year that was computed anew
year_rows_are : (p q : Planned) (y : Year) (new : New) → AllByRecursion (IsOwn y.key) y.records.items →
    YearKept p y → YearKept q (with_new y new) →
    changes (rows_kept_in y) (rows_kept_in (with_new y new)) ≡ year_changes p q (runs_in_year y)
year_rows_are p q y new own was is = ap₂ changes (year_kept_by p y own was) (new_rows q y new own is)

-- ---- the years so far

pub record IsTrying (p q : Planned) (years : List Year) (i : ℕ) (rows : List TrialRow) (runs taken began now : ℕ) :
    Type 0 where
  pub news : List New
  pub redoing : IsRedoing p q years i news runs taken began now
  pub rows_are : rows ≡ flat_map (year_changes p q) (runs_in (take i years))

module _ (p q : Planned) (years : List Year) (i : ℕ) (rows : List TrialRow) (runs taken began now : ℕ)
    (so_far : IsTrying p q years i rows runs taken began now) (rising : IsRising year_cmp kept_key years) (y : Year)
    (l : i < length years) (is : y ≡ get_or years i y) where
  runs_step : runs_in (take (i + 1) years) ≡ runs_in (take i years) ++ runs_in_year y ∷ []
  runs_step =
      ap runs_in (take_more years i y l ∙ ap (λ t. take i years ++ t ∷ []) (sym is))
      ∙ map-append runs_in_year (take i years) (y ∷ [])

  pub trying_more : (r : RedoneYear) (now' : ℕ) → AllByRecursion (IsOwn y.key) y.records.items → YearKept p y →
      IsYearRedone p q y r →
      now' ≡ now + total_cost (year_jobs p q y.records.items y.records.items) →
      IsTrying p q years (i + 1) (rows ++ changes (rows_kept_in y) (rows_kept_in (with_new y r.outcomes)))
      (runs + r.work.runs) (taken + r.work.steps) began now'
  trying_more r now' own was done counted = record {
    news = so_far.news ++ r.outcomes ∷ [];
    redoing = redoing_more p q years i so_far.news runs taken began now so_far.redoing rising y l is r now' done
        counted;
    rows_are =
        ap₂ (λ a b. a ++ b) so_far.rows_are (year_rows_are p q y r.outcomes own was done.kept
        ∙ sym (append-nil (year_changes p q (runs_in_year y))))
        ∙ sym (flat_map-append (year_changes p q) (runs_in (take i years)) (runs_in_year y ∷ []))
        ∙ ap (flat_map (year_changes p q)) (sym runs_step);
  }
