-- What is kept of runs, as rows.
use Rattle.std.specs.Prelude.{◌≡◌, ◌<◌, List, [], ◌∷◌, length}
use Rattle.std.specs.List.{AllByRecursion, flat_map}
use Rattle.payroll_records.specs.declared.record.Record.{Record}
use Rattle.payroll_records.specs.Tables.{key_of}
use Rattle.book_year.specs.declared.outcome.Outcome.{Outcome}
use Rattle.book_year.specs.declared.year.Year.{Year}
use Rattle.recalc_engine.specs.MonthRows.{KeyedRow}

-- a record with what is kept of its run
abbrev pub kept_row : Record → Outcome → KeyedRow
kept_row r o = record { key = key_of r; plan = o.plan; state = o.state }

-- the rows of records with what is kept of each
abbrev pub kept_rows : List Record → List Outcome → List KeyedRow
kept_rows [] outcomes = []
kept_rows (r ∷ rs) [] = []
kept_rows (r ∷ rs) (o ∷ os) = kept_row r o ∷ kept_rows rs os

-- the rows of a year, as they are kept
abbrev pub rows_kept_in : Year → List KeyedRow
rows_kept_in y = kept_rows y.records.items y.outcomes.items

-- the rows of all years, as they are kept
abbrev pub rows_kept : List Year → List KeyedRow
rows_kept years = flat_map rows_kept_in years

-- the year has runs, and an outcome for each
pub record IsPaired (y : Year) : Type 0 where
  pub some : 0 < length y.records.items
  pub paired : length y.records.items ≡ length y.outcomes.items

-- each year keeps an outcome for each of its records
abbrev pub ArePaired : List Year → Type 0
ArePaired years = AllByRecursion IsPaired years
