use Rattle.pap_plan.proofs.RunLemmas.{seen_count, seen_code, seen_run}
use Rattle.pap_plan.proofs.plan.Plan.run.Goals as goal

pub run-requires-clause-inputs : goal.run-requires-clause-inputs
run-requires-clause-inputs g c = seen_count _ _ c.code-code.result.now _ _ c.self.view_is c.code-code.ensures c.self.invariant c.args.inputs.now c.requires.admitted

pub run-requires-clause-safe : goal.run-requires-clause-safe
run-requires-clause-safe g c = seen_code _ _ c.code-code.result.now _ _ c.self.view_is c.code-code.ensures c.self.invariant c.args.inputs.now c.requires.admitted

pub returns-clause-outputs : goal.returns-clause-outputs
returns-clause-outputs g c = (seen_run _ _ c.code-code.result.now _ _ c.self.view_is c.code-code.ensures c.self.invariant c.args.inputs.now c.requires.admitted c.run.result c.run.new.self.slots c.run.new.outputs c.run.ensures.ran c.run.ensures.outputs).meant

pub returns-clause-ranges : goal.returns-clause-ranges
returns-clause-ranges g c = (seen_run _ _ c.code-code.result.now _ _ c.self.view_is c.code-code.ensures c.self.invariant c.args.inputs.now c.requires.admitted c.run.result c.run.new.self.slots c.run.new.outputs c.run.ensures.ran c.run.ensures.outputs).within

pub returns-clause-cost : goal.returns-clause-cost
returns-clause-cost g c = (seen_run _ _ c.code-code.result.now _ _ c.self.view_is c.code-code.ensures c.self.invariant c.args.inputs.now c.requires.admitted c.run.result c.run.new.self.slots c.run.new.outputs c.run.ensures.ran c.run.ensures.outputs).cost

pub returns-clause-bound : goal.returns-clause-bound
returns-clause-bound g c = (seen_run _ _ c.code-code.result.now _ _ c.self.view_is c.code-code.ensures c.self.invariant c.args.inputs.now c.requires.admitted c.run.result c.run.new.self.slots c.run.new.outputs c.run.ensures.ran c.run.ensures.outputs).bound
