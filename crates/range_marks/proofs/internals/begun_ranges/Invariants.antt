use Rattle.std.proofs.Common.{◌≡◌, map, take}
use Rattle.pap_tree.specs.Declarations.{declaration_of}
use Rattle.range_marks.specs.InternalRanges.{begun_range}
use Rattle.range_marks.proofs.internals.begun_ranges.Given as goal

abbrev pub invariant-loop-variable : goal.invariant-loop-variable
invariant-loop-variable l = l.ranges.items ≡ map begun_range (map declaration_of (take l.variable-index l.variables))
