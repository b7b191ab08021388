-- What a book shows of its runs: a row for each, in order of employee and day.
use Rattle.std.specs.Prelude.{List, Option, map}
use Rattle.std.specs.List.{flat_map}
use Rattle.payroll_records.specs.declared.day.Day.{Day}
use Rattle.payroll_records.specs.declared.record.Key.{Key}
use Rattle.plan_calendar.specs.Picking.{pick}
use Rattle.book_year.specs.declared.outcome.State.{State}
use Rattle.book_year.specs.declared.year.YearKey.{YearKey}
use Rattle.book_year.specs.Rows.{Planned, Row, year_rows}
use Rattle.book_edits.specs.Books.{YearRuns}
use Rattle.recalc_engine.specs.Contents.{Contents}

-- a run with its key: the day from which its plan holds, where it has one, and its state
pub record KeyedRow : Type 0 where
  pub key : Key
  pub plan : Option Day
  pub state : State

-- a row of an employee's year with its whole key
abbrev pub keyed_row : YearKey → Row → KeyedRow
keyed_row k row =
    record {
      key = record { employee = k.employee; day = row.day };
      plan = row.plan;
      state = row.state;
    }

-- the runs of an employee's year, computed anew
abbrev pub keyed_rows : Planned → YearRuns → List KeyedRow
keyed_rows planned y = map (keyed_row y.key) (year_rows planned y.runs)

-- the runs of a book, computed anew, year by year
abbrev pub month_rows : Contents → List KeyedRow
month_rows book = flat_map (keyed_rows (pick book.plans)) book.years
