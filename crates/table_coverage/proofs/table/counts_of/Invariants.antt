use Rattle.std.proofs.Common.{◌≡◌, length, map, take}
use Rattle.table_coverage.proofs.table.counts_of.Given as goal

abbrev pub invariant-loop-method : goal.invariant-loop-method
invariant-loop-method l = l.counts.items ≡ map length (take l.method-index l.listed)
