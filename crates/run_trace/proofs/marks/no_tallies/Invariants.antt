use Rattle.std.proofs.Common.{◌≡◌, map, take}
use Rattle.run_trace.specs.private.MarkViews.{none_of}
use Rattle.run_trace.proofs.marks.no_tallies.Given as goal

abbrev pub invariant-loop-method : goal.invariant-loop-method
invariant-loop-method l = l.tallies.items ≡ map none_of (take l.method-index l.methods)
