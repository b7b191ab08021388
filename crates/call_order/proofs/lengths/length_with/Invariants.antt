use Rattle.std.proofs.Common.{◌≡◌, ◌+◌, take}
use Rattle.std.specs.Prelude.{min, sum_by, slice_index}
use Rattle.call_order.specs.Faults.{last_count}
use Rattle.call_order.proofs.lengths.length_with.Given as goal

abbrev pub invariant-loop-method : goal.invariant-loop-method
invariant-loop-method l = l.length ≡ min (l.contents.statements + sum_by (slice_index l.lengths) (take l.method-index l.method-items)) last_count
