use Rattle.std.proofs.Common.{arith}
use Rattle.pap_tree.specs.Flowchart.{flowchart_of}
use Rattle.run_trace.proofs.LineLemmas.{one_execution}
use Rattle.run_trace.proofs.marks.add_steps.Goals as goal

pub loop-at-preserved : goal.loop-at-preserved
loop-at-preserved c =
    one_execution (flowchart_of c.args.telling.plan.now) c.loop-at.values c.follow.new.values c.loop-at.at c.args.steps.now
    c.index-steps-at.result c.loop-at.tallies c.add_step.new.tallies _ c.index-steps-at.is (omega arith) c.loop-at.invariant
    c.in_ok-add_step.ensures c.follow.ensures
