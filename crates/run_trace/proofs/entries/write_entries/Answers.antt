use Rattle.std.proofs.Common.{arith}
use Rattle.pap_tree.specs.Flowchart.{flowchart_of}
use Rattle.run_trace.proofs.PageLemmas.{one_entry}
use Rattle.run_trace.proofs.entries.write_entries.Goals as goal

pub loop-at-preserved : goal.loop-at-preserved
loop-at-preserved c =
    one_entry (flowchart_of c.args.telling.plan.now) c.args.telling.lines.now c.loop-at.values c.follow.new.values c.args.total
    c.loop-at.at c.args.steps.now c.index-steps-at.result c.loop-at.page c.write_numbered.new.page _ c.index-steps-at.is
    (omega arith) c.loop-at.invariant c.in_ok-write_numbered.ensures c.follow.ensures
