use Rattle.std.proofs.Common.{◌≡◌, ◌*◌, take}
use Rattle.interval_num.specs.ItemLevels.{halved}
use Rattle.interval_num.proofs.items.halved.Given as goal

abbrev pub invariant-loop-i : goal.invariant-loop-i
invariant-loop-i l = l.ranges.items ≡ halved (take (2 * l.i) l.level)
