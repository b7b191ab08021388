-- Tables of pay runs (docs/PROFILE.md, "Tables"): the records of a CSV text, or what is wrong with it first.
use Rattle.std.specs.Prelude.{◌≡◌, ◌≢◌, ◌↔◌, ◌⊎◌, ℕ, ◌+◌, ◌<◌, ◌≤◌, List, [], ◌∷◌, ◌++◌, length, slice_index_or, codes, IsTrue, Result, Ok, Err, ⊤}
use Rattle.std.specs.List.{AllByRecursion, AllPairs, AllZip, Any, Contains}
use Rattle.scaled_decimal.specs.Decimals.{Decimal}
use Rattle.scaled_decimal.specs.Limits.{IsKept}
use Rattle.scaled_decimal.specs.NumberTexts.{Spells}
use Rattle.pap_tree.specs.Names.{is_name}
use Rattle.payroll_records.specs.CsvRows.{csv_rows}
use Rattle.payroll_records.specs.Days.{IsDayText, IsMonthText, IsMonthSpelled}
use Rattle.payroll_records.specs.Employees.{is_employee}
use Rattle.payroll_records.specs.Limits.{most_values, longest_table}
use Rattle.payroll_records.specs.NamedValues.{AreValues}
use Rattle.payroll_records.specs.declared.record.Key.{Key}
use Rattle.payroll_records.specs.declared.record.Record.{Record}
use Rattle.payroll_records.specs.declared.table.TableFault.{TableFault}
use Rattle.payroll_records.specs.declared.table.TableFault.TheVariants as fault
use Rattle.payroll_records.specs.declared.values.NamedValue.{NamedValue}

-- a text as its bytes
abbrev pub Text : Type 0
Text = List ℕ

-- the name of a numbered column; empty past the last one
abbrev pub name_at : List Text → ℕ → Text
name_at names i = slice_index_or names i []

-- the first row: employee,month,day and then names, all different
pub record IsHeader (row names : List Text) : Type 0 where
  pub fields : row ≡ codes "employee" ∷ codes "month" ∷ codes "day" ∷ names
  pub named : AllByRecursion (λ n. IsTrue (is_name n)) names
  pub different : AllPairs (λ m n. m ≢ n) names
  pub few : length names ≤ most_values

-- a row's field at a place; empty past the last one
abbrev pub field_of : List Text → ℕ → Text
field_of row i = slice_index_or row i []

-- the cell of a row under a numbered value column
abbrev pub cell_of : List Text → ℕ → Text
cell_of row i = field_of row (3 + i)

-- the text spells a decimal that is kept
abbrev pub IsNumberText : Text → Decimal → Type 0
IsNumberText text d = Spells text d × IsKept d

-- a cell of values is empty or spells a number
abbrev pub IsReadable : Text → Type 0
IsReadable text = (text ≡ []) ⊎ ((d : Decimal) × IsNumberText text d)

-- some cell of the row spells this value, under the name of its column
pub record Supplies (names row : List Text) (v : NamedValue) : Type 0 where
  pub column : ℕ
  pub within : column < length names
  pub named : name_at names column ≡ v.name
  pub spelled : IsNumberText (cell_of row column) v.value

-- the row has as many cells as the header
abbrev pub FitsHeader : List Text → List Text → Type 0
FitsHeader names row = length row ≡ 3 + length names

-- the first cell of a row is an employee's text
abbrev pub HasEmployee : List Text → Type 0
HasEmployee row = IsTrue (is_employee (field_of row 0))

-- the second cell of a row is that of a month
abbrev pub HasMonth : List Text → Type 0
HasMonth row = IsMonthSpelled (field_of row 1)

-- the third cell of a row is that of this day, and the second that of its month
abbrev pub HasDayOf : List Text → ℕ → ℕ → ℕ → Type 0
HasDayOf row year month day =
    IsDayText (field_of row 2) year month day × IsMonthText (field_of row 1) year month

-- the third cell of a row is that of some day in the month of the second
abbrev pub HasDay : List Text → Type 0
HasDay row = (year : ℕ) × (month : ℕ) × (day : ℕ) × HasDayOf row year month day

-- the record of a row
pub record IsRecordOf (names row : List Text) (r : Record) : Type 0 where
  pub wide : FitsHeader names row
  pub has_employee : HasEmployee row
  pub employee : r.employee ≡ field_of row 0
  pub day : HasDayOf row r.day.year r.day.month r.day.day
  pub readable : (i : ℕ) → i < length names → IsReadable (cell_of row i)
  pub in_order : AreValues r.values
  pub values : (v : NamedValue) → Contains r.values v ↔ Supplies names row v

-- the employee and the day of a record
abbrev pub key_of : Record → Key
key_of r = record { employee = r.employee; day = r.day }

-- no two of the records are of one employee and day
abbrev pub HaveOwnKeys : List Record → Type 0
HaveOwnKeys records = AllPairs (λ r s. key_of r ≢ key_of s) records

-- each row gives its record, and no two of them have one key
pub record AreRecordsOf (names : List Text) (rows : List (List Text)) (records : List Record) : Type 0 where
  pub each : AllZip (IsRecordOf names) rows records
  pub own_keys : HaveOwnKeys records

-- the records of a table
pub record IsTable (bytes : List ℕ) (records : List Record) : Type 0 where
  pub short : length bytes ≤ longest_table
  pub header : List Text
  pub names : List Text
  pub rows : List (List Text)
  pub read : csv_rows bytes ≡ header ∷ rows
  pub is_header : IsHeader header names
  pub are_records : AreRecordsOf names rows records

-- the row doesn't have as many cells as the header
abbrev pub WrongWidth : List Text → List Text → Type 0
WrongWidth names row = FitsHeader names row → ⊥

-- the row has as many cells as the header, and its employee is wrong
abbrev pub WrongEmployee : List Text → List Text → Type 0
WrongEmployee names row = FitsHeader names row × (HasEmployee row → ⊥)

-- the row has as many cells as the header and a right employee, and its month is wrong
abbrev pub WrongMonth : List Text → List Text → Type 0
WrongMonth names row = FitsHeader names row × HasEmployee row × (HasMonth row → ⊥)

-- the row has as many cells as the header, a right employee and a right month, and its day is wrong or lies
-- in another month
abbrev pub WrongDay : List Text → List Text → Type 0
WrongDay names row = FitsHeader names row × HasEmployee row × HasMonth row × (HasDay row → ⊥)

-- the leftmost cell of values that isn't readable
pub record WrongValue (name : Text) (names row : List Text) : Type 0 where
  pub wide : FitsHeader names row
  pub employee : HasEmployee row
  pub day : HasDay row
  pub column : ℕ
  pub within : column < length names
  pub named : name_at names column ≡ name
  pub earlier : (i : ℕ) → i < column → IsReadable (cell_of row i)
  pub broken : IsReadable (cell_of row column) → ⊥

-- an earlier record is of the same employee and day
pub record Repeats (names : List Text) (before : List Record) (row : List Text) : Type 0 where
  pub of_row : Record
  pub is_record : IsRecordOf names row of_row
  pub repeated : Any (λ s. key_of s ≡ key_of of_row) before

-- a fault of the row by itself, whatever the rows before it give
abbrev pub ByItself : (List Text → List Text → Type 0) → List Text → List Record → List Text → Type 0
ByItself Fault names before row = Fault names row

-- the row of this number, counted from 1, is the first with a fault, and has this one
pub record IsFirstFault (names : List Text) (rows : List (List Text)) (number : ℕ)
    (Fault : List Text → List Record → List Text → Type 0) : Type 0 where
  pub before : List (List Text)
  pub row : List Text
  pub after : List (List Text)
  pub parts : rows ≡ before ++ (row ∷ after)
  pub counted : number ≡ length before + 1
  pub records : List Record
  pub are_records : AreRecordsOf names before records
  pub faulty : Fault names records row

-- the row of this number, counted from 1 after the header, is the first of a table's text with a fault, and
-- has this one
pub record BreaksAt (bytes : List ℕ) (number : ℕ)
    (Fault : List Text → List Record → List Text → Type 0) : Type 0 where
  pub short : length bytes ≤ longest_table
  pub header : List Text
  pub names : List Text
  pub rows : List (List Text)
  pub read : csv_rows bytes ≡ header ∷ rows
  pub is_header : IsHeader header names
  pub first : IsFirstFault names rows number Fault

-- there is no first row, or it isn't a header
abbrev pub IsNoHeader : List (List Text) → Type 0
IsNoHeader [] = ⊤
IsNoHeader (row ∷ rows) = (names : List Text) → IsHeader row names → ⊥

-- why a table is refused; a text never says that memory ran out
abbrev pub IsTableFault : List ℕ → TableFault → Type 0
IsTableFault bytes fault.TableLong = longest_table < length bytes
IsTableFault bytes fault.Header = (length bytes ≤ longest_table) × IsNoHeader (csv_rows bytes)
IsTableFault bytes (fault.Width row) = BreaksAt bytes row (ByItself WrongWidth)
IsTableFault bytes (fault.Employee row) = BreaksAt bytes row (ByItself WrongEmployee)
IsTableFault bytes (fault.Month row) = BreaksAt bytes row (ByItself WrongMonth)
IsTableFault bytes (fault.Day row) = BreaksAt bytes row (ByItself WrongDay)
IsTableFault bytes (fault.Value row name) = BreaksAt bytes row (ByItself (WrongValue name))
IsTableFault bytes (fault.Repeat row) = BreaksAt bytes row Repeats
IsTableFault bytes (fault.Memory error) = ⊥

-- why a call refuses a table: what its text says, or memory ran out, which may be at any text
abbrev pub IsTableFaultOrMemory : List ℕ → TableFault → Type 0
IsTableFaultOrMemory bytes (fault.Memory error) = ⊤
IsTableFaultOrMemory bytes other = IsTableFault bytes other

-- what a table's text says: its records, or why it is refused
abbrev pub TableSays : List ℕ → Result (List Record) TableFault → Type 0
TableSays bytes (Ok records) = IsTable bytes records
TableSays bytes (Err why) = IsTableFault bytes why

-- a text says one thing
pub record TableHasOneAnswer (bytes : List ℕ) : Type 0 where
  pub answer : Result (List Record) TableFault
  pub says : TableSays bytes answer
  pub alone : (other : Result (List Record) TableFault) → TableSays bytes other → other ≡ answer
