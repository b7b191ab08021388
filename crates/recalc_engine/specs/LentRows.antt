-- What a row lends of a book.
use Rattle.recalc_engine.specs.declared.months.MonthRow.{MonthRow}
use Rattle.recalc_engine.specs.MonthRows.{KeyedRow}

-- the row with the state that it lends
abbrev pub lent_row : MonthRow → KeyedRow
lent_row row = record { key = row.key; plan = row.plan; state = row.state.now }
