use Rattle.messages.proofs.ReadingLemmas.{script_read}
use Rattle.messages.proofs.reading.read_script_line.Goals as goal

pub returns-in-Some-read_number_to : goal.returns-in-Some-read_number_to
returns-in-Some-read_number_to c =
    script_read c.args.line.now c.in-Some.numbered.now c.in-Some-read_number_to.number c.in-Some-read_number_to.told.now
    c.in-Some.ensures c.in-Some-read_number_to.ensures
