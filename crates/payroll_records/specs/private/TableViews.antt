-- What the private functions of a table say of its columns and of one row.
use Rattle.std.specs.Prelude.{◌≡◌, ℕ, ◌<◌, ◌≤◌, List, [], ◌∷◌, ◌++◌, length, codes, Some, ⊤}
use Rattle.std.specs.List.{AllByRecursion}
use Rattle.rising_lists.specs.Keyed.{at_key, IsRising}
use Rattle.payroll_records.specs.NamedValues.{name_cmp}
use Rattle.payroll_records.specs.Tables.{ByItself, Text, name_at, WrongWidth, WrongEmployee, WrongMonth, WrongDay, WrongValue, Repeats, IsFirstFault, field_of}
use Rattle.payroll_records.specs.declared.header.Column.{Column}
use Rattle.payroll_records.specs.declared.row.RowFault.{RowFault}
use Rattle.payroll_records.specs.declared.row.RowFault.TheVariants as fault
use Rattle.payroll_records.specs.declared.table.TableFault.{TableFault}
use Rattle.payroll_records.specs.declared.table.TableFault.TheVariants as whole

abbrev pub column_name : Column → Text
column_name c = c.name

-- the column stands at its place in the header
pub record IsColumnOf (names : List Text) (c : Column) : Type 0 where
  pub within : c.place < length names
  pub named : name_at names c.place ≡ c.name

-- the columns of these names, in order of the names
pub record AreColumns (names : List Text) (columns : List Column) : Type 0 where
  pub same : length columns ≡ length names
  pub rising : IsRising name_cmp column_name columns
  pub each : AllByRecursion (IsColumnOf names) columns
  pub all : (i : ℕ) → i < length names →
      at_key name_cmp column_name columns (name_at names i)
      ≡ Some (record { name = name_at names i; place = i })

-- what is wrong with one row
abbrev pub IsRowFault : List Text → List Text → RowFault → Type 0
IsRowFault names row fault.Width = WrongWidth names row
IsRowFault names row fault.Employee = WrongEmployee names row
IsRowFault names row fault.Month = WrongMonth names row
IsRowFault names row fault.Day = WrongDay names row
IsRowFault names row (fault.Value name) = WrongValue name names row
IsRowFault names row (fault.Memory e) = ⊤

-- the fault of a row in a table
abbrev pub fault_at : ℕ → RowFault → TableFault
fault_at row fault.Width = whole.Width row
fault_at row fault.Employee = whole.Employee row
fault_at row fault.Month = whole.Month row
fault_at row fault.Day = whole.Day row
fault_at row (fault.Value name) = whole.Value row name
fault_at row (fault.Memory e) = whole.Memory e

-- the first fault of the rows after the header
abbrev pub BreaksIn : List Text → List (List Text) → TableFault → Type 0
BreaksIn names rows whole.TableLong = ⊥
BreaksIn names rows whole.Header = ⊥
BreaksIn names rows (whole.Width n) = IsFirstFault names rows n (ByItself WrongWidth)
BreaksIn names rows (whole.Employee n) = IsFirstFault names rows n (ByItself WrongEmployee)
BreaksIn names rows (whole.Month n) = IsFirstFault names rows n (ByItself WrongMonth)
BreaksIn names rows (whole.Day n) = IsFirstFault names rows n (ByItself WrongDay)
BreaksIn names rows (whole.Value n name) = IsFirstFault names rows n (ByItself (WrongValue name))
BreaksIn names rows (whole.Repeat n) = IsFirstFault names rows n Repeats
BreaksIn names rows (whole.Memory e) = ⊤

-- a row that begins as a header does
pub record BeginsHeader (row : List Text) : Type 0 where
  pub long : 3 ≤ length row
  pub employee : field_of row 0 ≡ codes "employee"
  pub month : field_of row 1 ≡ codes "month"
  pub day : field_of row 2 ≡ codes "day"

-- a name was added to the columns
pub record AddsColumn (old new : List Text) (columns : List Column) (name : Text) : Type 0 where
  pub names : new ≡ old ++ name ∷ []
  pub are : AreColumns new columns
