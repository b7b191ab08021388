-- What holds of the rows of every book.
use Rattle.std.specs.Prelude.{List, Option, Some, None, ⊤, map}
use Rattle.std.specs.List.{AllByRecursion}
use Rattle.rising_lists.specs.Keyed.{IsRising}
use Rattle.payroll_records.specs.declared.values.NamedValue.{NamedValue}
use Rattle.payroll_records.specs.NamedValues.{name_of}
use Rattle.payroll_records.specs.Orders.{key_cmp}
use Rattle.pap_types.specs.Typing.{AreDistinct}
use Rattle.carry_bindings.specs.Conditions.{AreBounded}
use Rattle.book_year.specs.Rows.{done_outputs}
use Rattle.recalc_engine.specs.BookLaws.{row_key}
use Rattle.recalc_engine.specs.MonthRows.{KeyedRow}

-- the values have different names
abbrev pub HaveNames : List NamedValue → Type 0
HaveNames values = AreDistinct (map name_of values)

-- the outputs of a run, where there are any, have different names
abbrev pub AreNamed : Option (List NamedValue) → Type 0
AreNamed None = ⊤
AreNamed (Some outputs) = HaveNames outputs

-- each output of a row is within the bound of outputs
abbrev pub HasBound : KeyedRow → Type 0
HasBound row = AreBounded (done_outputs row.state)

-- the outputs of a row have different names
abbrev pub HasNames : KeyedRow → Type 0
HasNames row = AreNamed (done_outputs row.state)

-- the keys rise; each output is within the bound of outputs, and those of one run have different names
pub record AreBookRows (rows : List KeyedRow) : Type 0 where
  pub rise : IsRising key_cmp row_key rows
  pub bounded : AllByRecursion HasBound rows
  pub named : AllByRecursion HasNames rows
