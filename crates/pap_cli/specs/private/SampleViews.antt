-- The LST of one more run, added.
use Rattle.std.specs.Prelude.{◌≡◌, Option, Some, None}
use Rattle.scaled_decimal.specs.Decimals.{Decimal, sum}
use Rattle.scaled_decimal.specs.WorkingNumbers.{SumFits}
use Rattle.recalc_engine.specs.MonthRows.{KeyedRow}
use Rattle.pap_cli.specs.SampleAnswers.{tax_of}

abbrev pub add_if : Decimal → Option Decimal → Decimal
add_if total None = total
add_if total (Some amount) = sum total amount

-- its LST can be added
abbrev pub TaxFits : Decimal → KeyedRow → Type 0
TaxFits total row = (amount : Decimal) → tax_of row ≡ Some amount → SumFits total amount
