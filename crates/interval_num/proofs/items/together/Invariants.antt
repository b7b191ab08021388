use Rattle.std.proofs.Common.{◌≡◌, ◌+◌, take}
use Rattle.interval_num.specs.Rows.{decimals_row}
use Rattle.interval_num.proofs.items.together.Given as goal

abbrev pub invariant-loop-item : goal.invariant-loop-item
invariant-loop-item l = l.range ≡ decimals_row (take (l.item-index + 1) l.items)
