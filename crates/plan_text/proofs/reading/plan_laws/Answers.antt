use Rattle.plan_text.proofs.PlanLaws.{one_plan, one_fault, never_both, always_one}
use Rattle.plan_text.proofs.reading.plan_laws.Goals as goal

pub returns-clause-one_plan : goal.returns-clause-one_plan
returns-clause-one_plan c = one_plan

pub returns-clause-one_fault : goal.returns-clause-one_fault
returns-clause-one_fault c = one_fault

pub returns-clause-never_both : goal.returns-clause-never_both
returns-clause-never_both c = never_both

pub returns-clause-always_one : goal.returns-clause-always_one
returns-clause-always_one c = always_one
