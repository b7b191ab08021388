use Rattle.std.proofs.Common.{arith}
use Rattle.scaled_decimal.proofs.PowerLemmas.{power_le}
use Rattle.scaled_decimal.proofs.compare.compare_scaled.Goals as goal

pub power_of_ten-requires : goal.power_of_ten-requires
power_of_ten-requires c = power_le _ (omega arith)
