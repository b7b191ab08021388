-- The parts of a payroll that is split by employee: the rows and the filings of some employees.
use Rattle.std.specs.Prelude.{ℕ, List, Bool, filter, not}
use Rattle.std.specs.Cmp.Lexicographic.{slice_cmp}
use Rattle.std.specs.Ordering.{is_lt, nat_cmp}
use Rattle.recalc_engine.specs.MonthRows.{KeyedRow}
use Rattle.correction_ledger.specs.declared.due.Entry.{Entry}
use Rattle.correction_ledger.specs.Filings.{Filings}

-- whether an employee comes before a cut, in the order of employees' bytes
abbrev pub is_before : List ℕ → List ℕ → Bool
is_before cut employee = is_lt (slice_cmp nat_cmp employee cut)

-- whether an employee comes at the cut or behind it
abbrev pub is_from : List ℕ → List ℕ → Bool
is_from cut employee = not (is_before cut employee)

-- the rows of the employees for whom a test holds
abbrev pub rows_where : (List ℕ → Bool) → List KeyedRow → List KeyedRow
rows_where test rows = filter (λ row. test row.key.employee) rows

-- the entries of these employees
abbrev pub entries_where : (List ℕ → Bool) → List Entry → List Entry
entries_where test entries = filter (λ e. test e.due.key.employee) entries

-- the filings of these employees, up to the same month
abbrev pub filings_where : (List ℕ → Bool) → Filings → Filings
filings_where test now = record { entries = entries_where test now.entries; last = now.last }
