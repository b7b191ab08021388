use Rattle.script_run.proofs.MemoryLaws.{ends_written}
use Rattle.script_run.proofs.turns.run.Goals as goal

pub returns-clause-standing : goal.returns-clause-standing
returns-clause-standing g c = λ script left files told.
    let made = c.in_ok-made.made in
    ends_written files script made.ended made.refusals (c.in_ok-made.ensures.standing script left files told)
