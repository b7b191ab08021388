use Rattle.std.proofs.Common.{arith}
use Rattle.interval_num.proofs.NumberLemmas.{power_kept}
use Rattle.interval_num.proofs.alignment.at_scale.Goals as goal

pub power_of_ten-requires : goal.power_of_ten-requires
power_of_ten-requires c = power_kept _ (omega arith)
