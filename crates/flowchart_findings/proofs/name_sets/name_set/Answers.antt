use Rattle.flowchart_findings.proofs.SetLemmas.{one_name}
use Rattle.flowchart_findings.proofs.name_sets.name_set.Goals as goal

pub loop-name-preserved : goal.loop-name-preserved
loop-name-preserved c =
    one_name c.args.names.now c.loop-name.name-index c.name-item.result c.loop-name.set c.insert.new.self c.name-item.is
    c.loop-name-test.true c.in_ok-insert.ensures.updates.0 c.loop-name.invariant
