use Rattle.std.proofs.Common.{ℕ, ◌<◌, get_or}
use Rattle.book_year.specs.declared.year.Year.{Year}
use Rattle.recalc_engine.specs.private.ValueViews.{IsYearKept}
use Rattle.recalc_engine.proofs.values.each_year_is_kept.Given as goal

abbrev pub invariant-loop-year : goal.invariant-loop-year
invariant-loop-year l = (k : ℕ) (d : Year) → k < l.year-index → IsYearKept (get_or l.years k d)
