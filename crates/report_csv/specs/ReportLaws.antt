-- The laws of reports: the rows of an employee depend on the plans and on that employee's own runs alone, and no field of a
-- row needs quotes.
use Rattle.std.specs.Prelude.{◌≡◌, ⊤, IsTrue, List, [], ◌++◌, Option}
use Rattle.std.specs.List.{AllByRecursion, flat_map}
use Rattle.csv.specs.Writing.{default_writer, row_text}
use Rattle.pap_tree.specs.Names.{is_name}
use Rattle.payroll_records.specs.declared.day.Day.{Day}
use Rattle.payroll_records.specs.declared.record.Key.{Key}
use Rattle.payroll_records.specs.declared.record.Record.{Record}
use Rattle.payroll_records.specs.Employees.{is_employee}
use Rattle.carry_bindings.specs.declared.filling.Blocked.{Blocked}
use Rattle.carry_bindings.specs.declared.filling.Blocked.TheVariants as blocked
use Rattle.plan_calendar.specs.Picking.{Entry, pick}
use Rattle.book_year.specs.Accepted.{Accepted}
use Rattle.book_year.specs.declared.outcome.State.{State}
use Rattle.book_year.specs.declared.outcome.State.TheVariants as state
use Rattle.book_edits.specs.Books.{YearRuns}
use Rattle.recalc_engine.specs.Contents.{Contents, with_years}
use Rattle.recalc_engine.specs.EditAnswers.{edited_book, load}
use Rattle.recalc_engine.specs.MonthRows.{keyed_rows, month_rows}
use Rattle.payroll_records.specs.Tables.{Text}
use Rattle.report_csv.specs.Reports.{header, row_line, run_front, state_rows}
use Rattle.report_csv.specs.ReportTexts.{months_text, report_text}
use Rattle.report_csv.specs.TableParts.{AreParts}

-- the rows of an employee's calendar year under these plans
abbrev pub year_text : List (Entry Accepted) → YearRuns → Text
year_text plans y = months_text (keyed_rows (pick plans) y)

-- the rows of a book are those of its employees' years, one after another
abbrev pub ReportsAreTheirYears : Type 0
ReportsAreTheirYears =
    (book : Contents) → months_text (month_rows book) ≡ flat_map (year_text book.plans) book.years

-- where the years of a book are split into two books with its plans, its rows are those of the one, and then of the other
abbrev pub ReportsAreJoined : Type 0
ReportsAreJoined =
    (book : Contents) (first rest : List YearRuns) → book.years ≡ first ++ rest
    → months_text (month_rows book)
    ≡ months_text (month_rows (with_years first book)) ++ months_text (month_rows (with_years rest book))

-- the rows of the report of a book into which a table is loaded, behind the first row
abbrev pub table_text : Contents → List Record → Text
table_text book table = months_text (month_rows (edited_book (load table) book))

-- where the parts of a table are loaded into books without runs that have the same plans, the first row and the rows of
-- these books, one after another, are the report of the book into which the whole table is loaded
abbrev pub ReportsOfPartsAreJoined : Type 0
ReportsOfPartsAreJoined =
    (book : Contents) (table : List Record) (parts : List (List Record)) → book.years ≡ []
    → AreParts table parts
    → report_text (edited_book (load table) book)
    ≡ row_line header ++ flat_map (table_text book) parts

-- what a run lacks or doesn't take is under a name
abbrev pub IsNamed : Blocked → Type 0
IsNamed (blocked.Waits d) = ⊤
IsNamed (blocked.Unknown n) = IsTrue (is_name n)
IsNamed (blocked.Missing n) = IsTrue (is_name n)
IsNamed (blocked.Range n) = IsTrue (is_name n)

-- what a run came to has names alone: that of what it lacks or doesn't take, or that of each output
abbrev pub RowsHaveNames : State → Type 0
RowsHaveNames state.NoPlan = ⊤
RowsHaveNames (state.Blocked why) = IsNamed why
RowsHaveNames (state.Done outputs) = AllByRecursion (λ v. IsTrue (is_name v.name)) outputs

-- each row of a run is what `csv` writes of its fields with its default settings: no field needs quotes
abbrev pub RowsNeedNoQuotes : Type 0
RowsNeedNoQuotes =
    (key : Key) (plan : Option Day) (s : State) → IsTrue (is_employee key.employee) → RowsHaveNames s
    → AllByRecursion (λ fields. row_line fields ≡ row_text default_writer fields)
    (state_rows (run_front key plan) s)
