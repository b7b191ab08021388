use Rattle.std.proofs.Common.{◌≡◌, ◌++◌, take}
use Rattle.interval_analysis.specs.private.StartViews.{declarations, begun}
use Rattle.interval_analysis.proofs.start.push_begun.Given as goal

abbrev pub invariant-loop-variable : goal.invariant-loop-variable
invariant-loop-variable l = l.ranges.items ≡ l.initial.ranges.items ++ begun (declarations (take l.variable-index l.variables))
