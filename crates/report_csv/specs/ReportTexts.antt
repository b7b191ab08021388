-- The text of the whole report.
use Rattle.std.specs.Prelude.{List, ◌++◌}
use Rattle.std.specs.List.{flat_map}
use Rattle.recalc_engine.specs.Contents.{Contents}
use Rattle.recalc_engine.specs.MonthRows.{KeyedRow, month_rows}
use Rattle.payroll_records.specs.Tables.{Text}
use Rattle.report_csv.specs.Reports.{header, row_line, run_text}

-- the rows of runs, one run after another
abbrev pub months_text : List KeyedRow → Text
months_text rows = flat_map (λ (r : KeyedRow). run_text r.key r.plan r.state) rows

-- the first row, and the rows of each run of the book, in order of employee and day
abbrev pub report_text : Contents → Text
report_text book = row_line header ++ months_text (month_rows book)
