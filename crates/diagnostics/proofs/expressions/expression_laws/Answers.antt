use Rattle.diagnostics.proofs.FaultLaws.{first_answered, one_fault_list}
use Rattle.diagnostics.proofs.expressions.expression_laws.Goals as goal

pub returns-clause-one : goal.returns-clause-one
returns-clause-one c = one_fault_list

pub returns-clause-first : goal.returns-clause-first
returns-clause-first c = first_answered
