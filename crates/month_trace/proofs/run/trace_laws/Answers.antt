use Rattle.month_trace.proofs.AnswerLemmas.{traces_end}
use Rattle.month_trace.proofs.OutputLemmas.{tells_outputs}
use Rattle.month_trace.proofs.ThereLemmas.{one_trace}
use Rattle.month_trace.proofs.run.trace_laws.Goals as goal

pub returns-clause-one : goal.returns-clause-one
returns-clause-one c = one_trace

pub returns-clause-outputs : goal.returns-clause-outputs
returns-clause-outputs c = tells_outputs

pub returns-clause-reports : goal.returns-clause-reports
returns-clause-reports c = traces_end
