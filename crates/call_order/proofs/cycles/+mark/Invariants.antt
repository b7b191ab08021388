use Rattle.call_order.specs.private.MarkViews.{left, IsMarking}
use Rattle.call_order.proofs.cycles.+mark.Given as goal

abbrev pub decreases-mark : goal.decreases-mark
decreases-mark l = left l.seen.now

abbrev pub invariant-loop-next : goal.invariant-loop-next
invariant-loop-next l = IsMarking l.graph l.i l.next-items l.next-index l.initial.seen l.seen
