use Rattle.pap_plan.proofs.RunLemmas.{seen_small}
use Rattle.pap_plan.proofs.plan.Plan.bound.Goals as goal

pub returns-clause-most : goal.returns-clause-most
returns-clause-most c = seen_small _ _ _ c.self.invariant
