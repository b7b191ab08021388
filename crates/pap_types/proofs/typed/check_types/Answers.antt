use Rattle.pap_tree.specs.Flowchart.{flowchart_of}
use Rattle.pap_types.proofs.NamingLemmas.{fault_answer, fault_of_names, fault_of_statements, all_pass}
use Rattle.pap_types.proofs.typed.check_types.Goals as goal

pub returns-in_err-names-clause-fault : goal.returns-in_err-names-clause-fault
returns-in_err-names-clause-fault c =
    let f = flowchart_of c.args.plan in
    let fault = c.in_err-names.field-0.0 in
    fault_answer f c.from_residual.result fault (fault_of_names f fault c.in_err-names.ensures) c.from_residual.ensures.1

pub returns-in_err-check_statements-clause-fault : goal.returns-in_err-check_statements-clause-fault
returns-in_err-check_statements-clause-fault c =
    let f = flowchart_of c.args.plan in
    let fault = c.in_err-check_statements.field-0.0 in
    let names = c.in_ok-names.ensures in
    fault_answer f c.from_residual-in_err-check_statements.result fault (fault_of_statements f fault names.1 c.in_err-check_statements.ensures) c.from_residual-in_err-check_statements.ensures.1

pub invariant_of-result : goal.invariant_of-result
invariant_of-result c =
    let names = c.in_ok-names.ensures in
    record {
      well_typed = all_pass (flowchart_of c.args.plan) names.1 c.in_ok-check_statements.ensures;
      counted = c.requires.counted;
      numbered = names.0;
    }

pub returns-clause-well_typed : goal.returns-clause-well_typed
returns-clause-well_typed c =
    let names = c.in_ok-names.ensures in
    all_pass (flowchart_of c.args.plan) names.1 c.in_ok-check_statements.ensures
