use Rattle.std.proofs.Common.{◌≡◌, take}
use Rattle.range_parts.specs.private.HalfViews.{replaced_in}
use Rattle.range_parts.proofs.parts.with_range.Given as goal

abbrev pub invariant-loop-limit : goal.invariant-loop-limit
invariant-loop-limit l = l.inputs.items ≡ replaced_in l.range (take l.limit-index l.limit-items)
