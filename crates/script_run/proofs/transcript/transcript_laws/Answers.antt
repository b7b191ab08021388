use Rattle.script_run.proofs.transcript.transcript_laws.Goals as goal
use Rattle.script_run.proofs.Laws.{some, one, leave_books}

pub returns-clause-some : goal.returns-clause-some
returns-clause-some c = some

pub returns-clause-one : goal.returns-clause-one
returns-clause-one c = one

pub returns-clause-left : goal.returns-clause-left
returns-clause-left c = leave_books
