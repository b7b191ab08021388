-- A year that is kept stands at its own key, and there are no more years than runs.
use Rattle.std.proofs.Common.{◌≡◌, ◌<◌, ◌≤◌, ℕ, List, [], ◌∷◌, length, get_or, Some, sym, subst, arith}
use Rattle.std.specs.List.{AllByRecursion}
use Rattle.std.proofs.lemmas.List.Elements.{All-from_recursion}
use Rattle.std.proofs.lemmas.List.Sums.{sum_by-cons}
use Rattle.rising_lists.specs.Keyed.{at_key, IsRising}
use Rattle.plan_calendar.specs.Picking.{Entry}
use Rattle.book_year.specs.Accepted.{Accepted}
use Rattle.book_year.specs.declared.year.Year.{Year}
use Rattle.book_edits.specs.declared.years.Years.{Years}
use Rattle.book_edits.specs.Books.{YearRuns, runs_of, run_count, year_cmp}
use Rattle.book_edits.specs.Kept.{AreYears, HasRuns, kept_key, runs_in, runs_in_year}
use Rattle.book_edits.proofs.ListLemmas.{found_each}
use Rattle.book_edits.proofs.YearsLemmas.{runs_kept, year_total}

-- the runs at the key of a year are that year's
pub runs_at : (ys : List Year) (i : ℕ) (y : Year) → IsRising year_cmp kept_key ys → i < length ys → y ≡ get_or ys i y → runs_of (runs_in ys) y.key ≡ y.records.items
runs_at ys i y rising l is =
    let here = All-from_recursion (λ (x : Year). at_key year_cmp kept_key ys x.key ≡ Some x) ys (found_each year_cmp year_total kept_key ys rising) i y l in
    subst (λ (x : Year). runs_of (runs_in ys) x.key ≡ x.records.items) (sym is) (runs_kept ys (get_or ys i y).key (get_or ys i y) here)

years_within : (ys : List Year) → AllByRecursion HasRuns ys → length ys ≤ run_count (runs_in ys)
years_within [] some = omega arith
years_within (y ∷ ys) some =
    let more = sum_by-cons (λ (x : YearRuns). length x.runs) (runs_in_year y) (runs_in ys) in
    omega (arith, more, some.0, years_within ys some.1)

-- there are at most 50,000 years
pub years_few : (plans : List (Entry Accepted)) (ys : Years) → AreYears plans ys → length ys.list.items ≤ 50000
years_few plans ys are = omega (arith, years_within ys.list.items are.some, are.count, are.few)
