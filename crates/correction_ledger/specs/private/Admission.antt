-- Why a month isn't filed, but for the number of entries.
use Rattle.std.specs.Prelude.{◌≡◌, ◌≢◌, List, Option, Some}
use Rattle.std.specs.declared.cmp.Ordering.TheVariants.{Less}
use Rattle.payroll_records.specs.declared.month.Month.{Month}
use Rattle.recalc_engine.specs.MonthRows.{KeyedRow}
use Rattle.correction_ledger.specs.declared.ledger.FileRefusal.{FileRefusal}
use Rattle.correction_ledger.specs.declared.ledger.FileRefusal.TheVariants as file
use Rattle.correction_ledger.specs.Filings.{IsLater}
use Rattle.correction_ledger.specs.Months.{month_cmp}
use Rattle.correction_ledger.specs.Open.{first_open}

-- why a month isn't filed, but for the number of entries
abbrev pub IsAdmitRefused : List KeyedRow → Month → Option Month → FileRefusal → Type 0
IsAdmitRefused rows month last (file.Early since) =
    (last ≡ Some since) × (month_cmp since month ≢ Less)
IsAdmitRefused rows month last (file.Open key) =
    IsLater month last × (first_open month rows ≡ Some key)
IsAdmitRefused rows month last file.Entries = ⊥
IsAdmitRefused rows month last (file.Memory error) = ⊥
