use Rattle.pap_tree.specs.Flowchart.{flowchart_of}
use Rattle.table_coverage.proofs.TableLemmas.{reached_statements, range_refused}
use Rattle.table_coverage.proofs.plan.reachable_within.Goals as goal

pub returns-in-Ok-clause-reached : goal.returns-in-Ok-clause-reached
returns-in-Ok-clause-reached c =
    let b = c.args.bound.now in
    reached_statements c.args.plan.now c.args.limits.now (flowchart_of b.typed) b.limits _ c.in-Ok.survey.reached c.requires.passed
    c.in-Ok.ensures.ranges c.in-Ok.ensures.reached

pub returns-in-Err-clause-refused : goal.returns-in-Err-clause-refused
returns-in-Err-clause-refused c =
    range_refused c.args.plan.now c.args.limits.now c.args.bound.now c.in-Err.refused.fault c.from.result c.requires c.in-Err.ensures.fault
    c.from.ensures
