use Rattle.std.proofs.Common.{◌≡◌, take}
use Rattle.run_trace.specs.private.MarkViews.{none_of}
use Rattle.run_trace.proofs.marks.MethodTally.none.Given as goal

abbrev pub invariant-loop-statement : goal.invariant-loop-statement
invariant-loop-statement l = l.statements.items ≡ none_of (take l.statement-index l.listed)
