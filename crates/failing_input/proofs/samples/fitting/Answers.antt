use Rattle.std.proofs.Common.{arith}
use Rattle.scaled_decimal.proofs.Laws.{power_le}
use Rattle.failing_input.proofs.samples.fitting.Goals as goal

pub numerator_at-low-requires-clause-power : goal.numerator_at-low-requires-clause-power
numerator_at-low-requires-clause-power c = power_le _ (omega (arith, c.requires.places))

pub numerator_at-high-requires-clause-power : goal.numerator_at-high-requires-clause-power
numerator_at-high-requires-clause-power c = power_le _ (omega (arith, c.requires.places))
