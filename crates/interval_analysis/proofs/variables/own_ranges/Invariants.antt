use Rattle.std.proofs.Common.{◌≡◌, ◌++◌, drop}
use Rattle.interval_analysis.specs.private.Notes.{own_ranges}
use Rattle.interval_analysis.proofs.variables.own_ranges.Given as goal

abbrev pub invariant-loop-change : goal.invariant-loop-change
invariant-loop-change l = l.own.items ++ own_ranges l.ranges (drop l.change-index l.changes) ≡ own_ranges l.ranges l.changes
