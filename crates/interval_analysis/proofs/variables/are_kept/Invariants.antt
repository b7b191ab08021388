use Rattle.std.proofs.Common.{take}
use Rattle.interval_analysis.specs.private.Changes.{AreKept}
use Rattle.interval_analysis.proofs.variables.are_kept.Given as goal

abbrev pub invariant-loop-range : goal.invariant-loop-range
invariant-loop-range l = AreKept (take l.range-index l.ranges)
