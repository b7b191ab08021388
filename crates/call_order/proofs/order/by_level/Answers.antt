use Rattle.std.proofs.Common.{arith}
use Rattle.call_order.proofs.OrderLemmas.{partly_all}
use Rattle.call_order.proofs.order.by_level.Goals as goal

pub returns : goal.returns
returns c = partly_all _ (c.loop-level.level) _ c.requires.placed (omega (arith, c.loop-level-test.false)) c.loop-level.invariant
