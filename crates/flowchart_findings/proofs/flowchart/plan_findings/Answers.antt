use Rattle.pap_tree.specs.Flowchart.{flowchart_of}
use Rattle.flowchart_findings.proofs.ExitLemmas.{closed_told, never_taken}
use Rattle.flowchart_findings.proofs.FindingLemmas.{all_parts}
use Rattle.flowchart_findings.proofs.IdleLemmas.{never_executed}
use Rattle.flowchart_findings.proofs.flowchart.plan_findings.Goals as goal

pub returns-clause-exact : goal.returns-clause-exact
returns-clause-exact c =
    all_parts (flowchart_of c.args.plan.now) c.args.reached.now c.args.exits.now c.in_ok-names.names c.new-out.result.items _
    c.in_ok-names.ensures c.new-out.ensures.items c.in_ok-add_findings.ensures

pub returns-clause-tests : goal.returns-clause-tests
returns-clause-tests c =
    closed_told c.args.reached.now c.args.exits.now (flowchart_of c.args.plan.now) _ (returns-clause-exact c)

pub returns-clause-sound : goal.returns-clause-sound
returns-clause-sound c =
    λ inputs all. never_executed c.args.reached.now c.args.exits.now (flowchart_of c.args.plan.now) inputs all _
    (returns-clause-exact c)

pub returns-clause-taken : goal.returns-clause-taken
returns-clause-taken c =
    λ inputs all. never_taken (flowchart_of c.args.plan.now) inputs c.args.exits.now all c.args.reached.now _
    (returns-clause-tests c)
