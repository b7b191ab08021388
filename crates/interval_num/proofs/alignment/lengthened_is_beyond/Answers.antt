use Rattle.interval_num.proofs.NumberLemmas.{power_kept}
use Rattle.interval_num.proofs.alignment.lengthened_is_beyond.Goals as goal

pub power_of_ten-requires : goal.power_of_ten-requires
power_of_ten-requires c = power_kept _ c.requires
