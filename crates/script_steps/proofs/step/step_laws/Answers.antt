use Rattle.script_steps.proofs.step.step_laws.Goals as goal
use Rattle.script_steps.proofs.Laws.{some, one, told, long, alone, refused, put_plans}

pub returns-clause-some : goal.returns-clause-some
returns-clause-some c = some

pub returns-clause-one : goal.returns-clause-one
returns-clause-one c = one

pub returns-clause-told : goal.returns-clause-told
returns-clause-told c = told

pub returns-clause-long : goal.returns-clause-long
returns-clause-long c = long

pub returns-clause-long_alone : goal.returns-clause-long_alone
returns-clause-long_alone c = alone

pub returns-clause-refused : goal.returns-clause-refused
returns-clause-refused c = refused

pub returns-clause-plans : goal.returns-clause-plans
returns-clause-plans c = put_plans
