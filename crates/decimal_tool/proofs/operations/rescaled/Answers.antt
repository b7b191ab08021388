use Rattle.std.proofs.Common.{arith}
use Rattle.scaled_decimal.proofs.Laws.{rescale_fits_at}
use Rattle.decimal_tool.proofs.operations.rescaled.Goals as goal

pub set_scale-requires : goal.set_scale-requires
set_scale-requires c = rescale_fits_at c.args.mode c.args.d c.args.scale (omega arith) (omega (arith, c.scale.ensures.value, c.scale.ensures.kept)) (rw (c.max.ensures, c.scale.ensures.value) at c.in_ok-numerator_at.ensures.kept)
