use Rattle.pap_plan.proofs.RunLemmas.{seen_safe}
use Rattle.pap_plan.proofs.plan.Plan.text.Goals as goal

pub returns-clause-safe : goal.returns-clause-safe
returns-clause-safe c inputs h = seen_safe _ _ _ _ c.self.view_is c.self.invariant inputs h
