use Rattle.std.proofs.Common.{◌≡◌, ◌++◌, ◌<◌, ℕ, get_or, take}
use Rattle.std.specs.List.{flat_map}
use Rattle.book_year.specs.declared.year.Year.{Year}
use Rattle.book_edits.specs.Kept.{runs_in}
use Rattle.book_file.specs.private.WritingViews.{HasRuns, year_text}
use Rattle.book_file.proofs.write.write_years.Given as goal

abbrev pub invariant-loop-year : goal.invariant-loop-year
invariant-loop-year l = record {
  text : l.text.items ≡ l.initial.text.items ++ flat_map year_text (runs_in (take l.year-index l.years));
  runs : (k : ℕ) (d : Year) → k < l.year-index → HasRuns (get_or l.years k d);
}
