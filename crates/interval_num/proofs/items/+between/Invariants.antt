use Rattle.std.proofs.Common.{◌-◌}
use Rattle.interval_num.proofs.items.+between.Given as goal

abbrev pub decreases-between : goal.decreases-between
decreases-between l = l.hi - l.lo
