use Rattle.std.proofs.Common.{arith, below_more}
use Rattle.call_order.proofs.MarkLemmas.{match_true, match_false}
use Rattle.call_order.proofs.cycles.first_in_cycle.Goals as goal

pub returns-then-branch : goal.returns-then-branch
returns-then-branch c = record {
  below = c.loop-i-test.true;
  holds = match_true _ _ _ c.if-branch.true c.in_ok-reaches_itself.ensures;
  first = c.loop-i.invariant;
}

pub loop-i-preserved : goal.loop-i-preserved
loop-i-preserved c = below_more _ _ c.loop-i.invariant (match_false _ _ _ c.if-branch.false c.in_ok-reaches_itself.ensures)

pub returns : goal.returns
returns c = λ i lt. c.loop-i.invariant i (omega (arith, c.loop-i-test.false))
