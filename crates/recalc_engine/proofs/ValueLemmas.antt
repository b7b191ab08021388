-- The values of a book's runs are kept decimals.
use Rattle.std.proofs.Common.{◌≡◌, ◌<◌, List, [], ◌∷◌, map, length, get_or, ap, subst, ◌∙◌, arith}
use Rattle.std.specs.Prelude.{All}
use Rattle.std.specs.List.{AllByRecursion, flat_map}
use Rattle.std.proofs.lemmas.List.{get_or-map, length-map}
use Rattle.std.proofs.lemmas.List.Elements.{All-head, All-tail, recursion_from_All}
use Rattle.scaled_decimal.specs.Decimals.{Decimal}
use Rattle.scaled_decimal.specs.Limits.{IsKept}
use Rattle.payroll_records.specs.declared.values.NamedValue.{NamedValue}
use Rattle.pay_run.specs.Runs.{IsKeptValue}
use Rattle.book_year.specs.declared.year.Year.{Year}
use Rattle.book_edits.specs.Books.{YearRuns}
use Rattle.book_edits.specs.Kept.{runs_in}
use Rattle.recalc_engine.specs.BookLaws.{HasKeptValues}
use Rattle.recalc_engine.specs.private.ValueViews.{IsYearKept}
use Rattle.recalc_engine.proofs.OutputLemmas.{all_both}

pub values_kept : (vs : List NamedValue) (numbers : List Decimal) → numbers ≡ map (λ (v : NamedValue). v.value) vs →
    All IsKept numbers → All IsKeptValue vs
values_kept vs numbers e h k d lt =
    let long : k < length numbers = omega (arith, ap length e, length-map vs (λ (v : NamedValue). v.value)) in
    subst IsKept (ap (λ t. get_or t k d.value) e ∙ get_or-map (λ (v : NamedValue). v.value) vs k d d.value lt)
    (h k d.value long)

pub listed_kept : (ys : List Year) → All IsYearKept ys →
    AllByRecursion HasKeptValues (flat_map (λ (y : YearRuns). y.runs) (runs_in ys))
listed_kept [] h = tt
listed_kept (y ∷ ys) h =
    all_both HasKeptValues y.records.items (flat_map (λ (y : YearRuns). y.runs) (runs_in ys))
    (recursion_from_All HasKeptValues y.records.items (All-head IsYearKept y ys h))
    (listed_kept ys (All-tail IsYearKept y ys h))
