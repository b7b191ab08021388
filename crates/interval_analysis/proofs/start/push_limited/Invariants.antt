use Rattle.std.proofs.Common.{◌≡◌, ◌++◌, take}
use Rattle.interval_analysis.specs.private.StartViews.{declarations, limited}
use Rattle.interval_analysis.proofs.start.push_limited.Given as goal

abbrev pub invariant-loop-input : goal.invariant-loop-input
invariant-loop-input l = l.ranges.items ≡ l.initial.ranges.items ++ limited l.limits (declarations (take l.input-index l.inputs))
