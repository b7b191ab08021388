use Rattle.scaled_decimal.proofs.Laws.{power_le}
use Rattle.checked_run.proofs.fits.lengthened.Goals as goal

pub power_of_ten-requires : goal.power_of_ten-requires
power_of_ten-requires c = power_le _ c.requires
