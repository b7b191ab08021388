use Rattle.pap_plan.specs.Plans.{flowchart}
use Rattle.month_trace.proofs.ThereLemmas.{has_trace}
use Rattle.month_trace.proofs.run.trace_run.Goals as goal

pub returns-clause-there : goal.returns-clause-there
returns-clause-there c =
    has_trace (flowchart c.args.p.now) c.args.inputs.now (c.text.ensures.safe c.args.inputs.now c.requires)
