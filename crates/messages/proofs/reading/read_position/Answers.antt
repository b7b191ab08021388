use Rattle.messages.proofs.ReadingLemmas.{column_unread}
use Rattle.messages.proofs.reading.read_position.Goals as goal

pub returns-in_err-column : goal.returns-in_err-column
returns-in_err-column c =
    rw c.from_residual-in_err-column.ensures
    (column_unread c.args.text.now c.in_ok-line.rest.now c.in_ok-line.line c.in_ok-line.ensures c.in_err-column.ensures)
