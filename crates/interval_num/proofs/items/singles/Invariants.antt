use Rattle.std.proofs.Common.{◌≡◌, take}
use Rattle.interval_num.specs.ItemLevels.{single_rows}
use Rattle.interval_num.proofs.items.singles.Given as goal

abbrev pub invariant-loop-item : goal.invariant-loop-item
invariant-loop-item l = l.ranges.items ≡ single_rows (take l.item-index l.items)
