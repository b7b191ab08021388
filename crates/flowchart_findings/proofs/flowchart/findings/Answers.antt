use Rattle.std.proofs.Common.{List, subst}
use Rattle.std.specs.Prelude.{◌≡◌, IfOk}
use Rattle.scaled_decimal.specs.Decimals.{Decimal}
use Rattle.pap_tree.specs.Flowchart.{flowchart_of}
use Rattle.interval_analysis.specs.Surveys.{HaveExecuted, HaveTaken}
use Rattle.flowchart_findings.specs.ClosedExits.{TellClosedExits}
use Rattle.flowchart_findings.specs.Findings.{findings_of}
use Rattle.flowchart_findings.specs.NeverExecuted.{AreNeverExecuted, AreNeverTaken}
use Rattle.flowchart_findings.proofs.flowchart.findings.Goals as goal

pub returns-clause-exact : goal.returns-clause-exact
returns-clause-exact c =
    subst (λ p. IfOk c.plan_findings.result (λ found.
    found.items ≡ findings_of (flowchart_of p) c.args.reached.now c.args.exits.now))
    c.plan.ensures.text c.plan_findings.ensures.exact

pub returns-clause-tests : goal.returns-clause-tests
returns-clause-tests c =
    subst (λ p. IfOk c.plan_findings.result (λ found.
    TellClosedExits (flowchart_of p) c.args.reached.now c.args.exits.now found.items))
    c.plan.ensures.text c.plan_findings.ensures.tests

pub returns-clause-sound : goal.returns-clause-sound
returns-clause-sound c =
    subst (λ p. IfOk c.plan_findings.result (λ found. (inputs : List Decimal)
    → HaveExecuted (flowchart_of p) inputs c.args.reached.now → AreNeverExecuted (flowchart_of p) inputs found.items))
    c.plan.ensures.text c.plan_findings.ensures.sound

pub returns-clause-taken : goal.returns-clause-taken
returns-clause-taken c =
    subst (λ p. IfOk c.plan_findings.result (λ found. (inputs : List Decimal)
    → HaveTaken (flowchart_of p) inputs c.args.exits.now → AreNeverTaken (flowchart_of p) inputs found.items))
    c.plan.ensures.text c.plan_findings.ensures.taken
