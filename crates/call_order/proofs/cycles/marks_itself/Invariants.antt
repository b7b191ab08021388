use Rattle.call_order.specs.private.MarkViews.{IsMarking}
use Rattle.call_order.proofs.cycles.marks_itself.Given as goal

abbrev pub invariant-loop-next : goal.invariant-loop-next
invariant-loop-next l = IsMarking l.graph l.method l.next-items l.next-index l.initial.seen l.seen
