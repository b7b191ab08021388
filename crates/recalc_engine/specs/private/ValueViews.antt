-- The values of the runs that are kept.
use Rattle.std.specs.Prelude.{All}
use Rattle.book_year.specs.declared.year.Year.{Year}
use Rattle.recalc_engine.specs.BookLaws.{HasKeptValues}

-- each value of each run of the year is a decimal that 128 bits keep
abbrev pub IsYearKept : Year → Type 0
IsYearKept y = All HasKeptValues y.records.items
