use Rattle.std.proofs.Common.{drop}
use Rattle.messages.proofs.ReadingLemmas.{unread_number}
use Rattle.messages.proofs.reading.read_number_to.Goals as goal

pub returns-in_err-number : goal.returns-in_err-number
returns-in_err-number c =
    rw c.from_residual-in_err-number.ensures
    (unread_number c.args.mark.now (drop 1 c.args.mark.now) c.args.text.now c.in_ok-digits.digits.now c.in_ok-digits.rest.now
    c.requires c.in_ok-digits.ensures c.in_err-number.ensures)
