-- The runs that keep a month from being filed.
use Rattle.std.specs.Prelude.{Bool, ◌&&◌, List, Option, find, is_none, option_map}
use Rattle.payroll_records.specs.declared.month.Month.{Month}
use Rattle.payroll_records.specs.declared.record.Key.{Key}
use Rattle.book_year.specs.Rows.{done_outputs}
use Rattle.recalc_engine.specs.BookLaws.{row_key}
use Rattle.recalc_engine.specs.MonthRows.{KeyedRow}
use Rattle.correction_ledger.specs.Months.{is_up_to}

-- whether a run of the month or of an earlier one isn't ok
abbrev pub is_open : Month → KeyedRow → Bool
is_open month row = is_none (done_outputs row.state) && is_up_to month row.key.day

-- the first such run
abbrev pub first_open : Month → List KeyedRow → Option Key
first_open month rows = option_map row_key (find (is_open month) rows)
