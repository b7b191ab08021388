-- What the cells of a row spell, and the values of the first so many columns, in order of the names.
use Rattle.std.specs.Prelude.{◌≡◌, ◌↔◌, ℕ, ◌<◌, ◌≤◌, List, length, slice_index_or, Option, None, Some, ⊤}
use Rattle.std.specs.List.{AllByRecursion, Contains}
use Rattle.std.specs.declared.cmp.Ordering.TheVariants.{Less}
use Rattle.scaled_decimal.specs.Decimals.{Decimal}
use Rattle.rising_lists.specs.Keyed.{IsRising}
use Rattle.payroll_records.specs.NamedValues.{name_cmp, name_of}
use Rattle.payroll_records.specs.Tables.{Text, Supplies, IsNumberText, IsReadable, cell_of}
use Rattle.payroll_records.specs.declared.header.Column.{Column}
use Rattle.payroll_records.specs.declared.row.CellFault.{CellFault}
use Rattle.payroll_records.specs.declared.row.CellFault.TheVariants as fault
use Rattle.payroll_records.specs.declared.values.NamedValue.{NamedValue}

abbrev pub column_at : List Column → ℕ → Column → Column
column_at columns j c = slice_index_or columns j c

-- the number at a place, where there is one
abbrev pub number_at : List (Option Decimal) → ℕ → Option Decimal
number_at numbers place = slice_index_or numbers place None

-- each of the first so many cells of values is empty or spells a number
abbrev pub AreReadable : List Text → ℕ → Type 0
AreReadable row count = (i : ℕ) → i < count → IsReadable (cell_of row i)

-- the cell spells this number, or is empty where there is none
pub record IsNumberOf (cell : Text) (number : Option Decimal) : Type 0 where
  pub readable : IsReadable cell
  pub exact : (d : Decimal) → (number ≡ Some d) ↔ IsNumberText cell d

-- these are the numbers of the first so many cells
pub record AreNumbersOf (row : List Text) (count : ℕ) (numbers : List (Option Decimal)) : Type 0 where
  pub same : length numbers ≡ count
  pub each : (i : ℕ) → i < count → IsNumberOf (cell_of row i) (number_at numbers i)

-- the leftmost cell that isn't readable
pub record IsFirstBroken (row : List Text) (count k : ℕ) : Type 0 where
  pub within : k < count
  pub earlier : AreReadable row k
  pub broken : IsReadable (cell_of row k) → ⊥

-- why these cells spell no values
abbrev pub IsCellFault : List Text → ℕ → CellFault → Type 0
IsCellFault row count (fault.Broken place) = IsFirstBroken row count place
IsCellFault row count (fault.Memory e) = ⊤

pub record AreValuesOf (names : List Text) (columns : List Column) (row : List Text) (count : ℕ)
    (values : List NamedValue) : Type 0 where
  pub few : length values ≤ count
  pub rising : IsRising name_cmp name_of values
  pub supplied : AllByRecursion (Supplies names row) values
  pub below : (j : ℕ) (c : Column) → count ≤ j → j < length columns →
      AllByRecursion (λ v. name_cmp v.name (column_at columns j c).name ≡ Less) values
  pub all : (j : ℕ) (c : Column) (d : Decimal) → j < count →
      IsNumberText (cell_of row (column_at columns j c).place) d →
      Contains values (record { name = (column_at columns j c).name; value = d })
