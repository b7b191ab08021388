use Rattle.pap_tree.specs.Flowchart.{flowchart_of}
use Rattle.pap_plan.proofs.CountLemmas.{counted}
use Rattle.pap_plan.proofs.HeldLemmas.{plan_held}
use Rattle.pap_plan.proofs.acceptance.read_plan.Goals as goal

pub returns-clause-counted : goal.returns-clause-counted
returns-clause-counted c = counted c.args.plan.now (flowchart_of c.in_ok-read_plan.field-0) c.in_ok-read_plan.ensures.read

pub returns-clause-held : goal.returns-clause-held
returns-clause-held c = plan_held c.args.plan.now (flowchart_of c.in_ok-read_plan.field-0) c.in_ok-read_plan.ensures.read
