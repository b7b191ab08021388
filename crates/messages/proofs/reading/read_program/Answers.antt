use Rattle.messages.proofs.ReadingLemmas.{program_other}
use Rattle.messages.proofs.reading.read_program.Goals as goal

pub returns-in-None : goal.returns-in-None
returns-in-None c = program_other c.args.line.now c.in_default.ensures c.in-None.ensures
