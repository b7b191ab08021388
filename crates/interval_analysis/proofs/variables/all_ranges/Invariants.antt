use Rattle.std.proofs.Common.{◌≡◌, ◌++◌, drop}
use Rattle.interval_analysis.specs.private.Notes.{numbered}
use Rattle.interval_analysis.proofs.variables.all_ranges.Given as goal

abbrev pub invariant-loop-number : goal.invariant-loop-number
invariant-loop-number l = l.all.items ++ numbered l.number (drop l.number l.ranges) ≡ numbered 0 l.ranges
