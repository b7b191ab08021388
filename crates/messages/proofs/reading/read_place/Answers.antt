use Rattle.messages.proofs.ReadingLemmas.{place_read, unread_place}
use Rattle.messages.proofs.reading.read_place.Goals as goal

pub returns-in_err-position : goal.returns-in_err-position
returns-in_err-position c =
    rw c.from_residual-in_err-position.ensures
    (unread_place c.args.told.now c.in_ok-file.file.now c.in_ok-file.rest.now c.in_ok-file.ensures c.in_err-position.ensures)

pub returns : goal.returns
returns c = λ files.
    place_read files c.args.told.now c.in_ok-file.file c.in_ok-file.rest.now c.in_ok-position.reason.now
    c.in_ok-position.position c.in_ok-file.ensures c.in_ok-position.ensures
