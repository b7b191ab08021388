-- What a book reports up to a month, as a list.
use Rattle.std.specs.Prelude.{◌≡◌, ℕ, List, [], Option, IsTrue, map, option_map, if◌then◌else◌}
use Rattle.std.specs.List.{AllByRecursion}
use Rattle.std.specs.Option.{option_map_or}
use Rattle.std.specs.declared.cmp.Ordering.TheVariants.{Less}
use Rattle.limits_file.specs.Limits.{IsWithinBound}
use Rattle.rising_lists.specs.Keyed.{at_key, IsRising}
use Rattle.payroll_records.specs.declared.month.Month.{Month}
use Rattle.payroll_records.specs.declared.record.Key.{Key}
use Rattle.payroll_records.specs.declared.values.NamedValue.{NamedValue}
use Rattle.payroll_records.specs.NamedValues.{name_cmp}
use Rattle.payroll_records.specs.Orders.{key_cmp}
use Rattle.carry_bindings.specs.Carrying.{named}
use Rattle.book_year.specs.Rows.{done_outputs}
use Rattle.recalc_engine.specs.MonthRows.{KeyedRow}
use Rattle.correction_ledger.specs.declared.due.Due.{Due}
use Rattle.correction_ledger.specs.Months.{is_up_to}
use Rattle.correction_ledger.specs.Owed.{reported}
use Rattle.correction_ledger.specs.Accounts.{Account, amount_at, due_amount, account_cmp, account_of}

-- the outputs, or none
abbrev pub outputs_or_none : Option (List NamedValue) → List NamedValue
outputs_or_none o = option_map_or (λ outputs. outputs) o []

-- the outputs of a run that is up to the month and ok, else none
abbrev pub outputs_by : Month → KeyedRow → List NamedValue
outputs_by month row =
    if is_up_to month row.key.day then outputs_or_none (done_outputs row.state) else []

-- an output of a run as an amount
abbrev pub due_for : Key → NamedValue → Due
due_for key v = record { key = key; name = v.name; amount = v.value }

-- the outputs of a run as amounts
abbrev pub dues_of : Key → List NamedValue → List Due
dues_of key outputs = map (due_for key) outputs

-- the output's name
abbrev pub due_name : Due → List ℕ
due_name d = d.name

-- the outputs of a run as amounts, in order of their names
pub record AreListed (key : Key) (outputs : List NamedValue) (dues : List Due) : Type 0 where
  pub keyed : AllByRecursion (λ d. d.key ≡ key) dues
  pub rising : IsRising name_cmp due_name dues
  pub at : (name : List ℕ)
      → option_map due_amount (at_key name_cmp due_name dues name) ≡ named name outputs
  pub none : outputs ≡ [] → dues ≡ []
  pub bounded : AllByRecursion (λ v. IsWithinBound v.value) outputs
      → AllByRecursion (λ d. IsWithinBound d.amount) dues

-- the amounts that the rows report up to the month, in order; none is of a key above all rows
pub record AreReported (rows : List KeyedRow) (month : Month) (dues : List Due) : Type 0 where
  pub rising : IsRising account_cmp account_of dues
  pub amounts : (p : Account) → IsTrue (is_up_to month p.key.day)
      → amount_at dues p ≡ reported rows p
  pub up_to : AllByRecursion (λ d. IsTrue (is_up_to month d.key.day)) dues
  pub bounded : AllByRecursion (λ d. IsWithinBound d.amount) dues
  pub below : (k : Key) → AllByRecursion (λ row. key_cmp row.key k ≡ Less) rows
      → AllByRecursion (λ d. key_cmp d.key k ≡ Less) dues
