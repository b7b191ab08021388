use Rattle.interval_num.proofs.TogetherLemmas.{one_more}
use Rattle.interval_num.proofs.items.together.Goals as goal

pub loop-item-preserved : goal.loop-item-preserved
loop-item-preserved c = one_more c.args.items.now c.loop-item.item-index c.loop-item.range _ c.joined-range.result c.item-item.result c.loop-item-test.true c.item-item.is c.loop-item.invariant c.single-in-loop-item.ensures c.joined-range.ensures
