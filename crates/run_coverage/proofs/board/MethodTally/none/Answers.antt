use Rattle.run_coverage.proofs.Steps.{tallies_more}
use Rattle.run_coverage.proofs.board.MethodTally.none.Goals as goal

pub loop-preserved : goal.loop-preserved
loop-preserved c =
    tallies_more c.loop.counter c.loop.statements.items c.push.new.self.items c.none.result c.none.ensures c.loop.invariant
    c.in_ok-push.ensures.items
