use Rattle.std.proofs.Common.{◌≡◌, map, take}
use Rattle.run_trace.specs.private.MarkViews.{mark_in}
use Rattle.run_trace.proofs.marks.MethodTally.marks.Given as goal

abbrev pub invariant-loop-statement : goal.invariant-loop-statement
invariant-loop-statement l = l.marks.items ≡ map (mark_in l.total) (take l.statement-index l.self)
