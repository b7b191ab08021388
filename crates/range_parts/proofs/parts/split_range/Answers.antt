use Rattle.std.proofs.Common.{◌≤ℤ◌, ◌<ℤ◌, arith}
use Rattle.std.proofs.lemmas.Int.{ints}
use Rattle.scaled_decimal.specs.Decimals.{numerator_at}
use Rattle.scaled_decimal.proofs.Laws.{power_le}
use Rattle.range_parts.proofs.SplitLemmas.{are_halves}
use Rattle.range_parts.proofs.parts.split_range.Goals as goal

pub numerator_at-low-requires-clause-power : goal.numerator_at-low-requires-clause-power
numerator_at-low-requires-clause-power c = power_le _ (omega (arith, c.requires.places))

pub numerator_at-high-requires-clause-power : goal.numerator_at-high-requires-clause-power
numerator_at-high-requires-clause-power c = power_le _ (omega (arith, c.requires.places))

pub returns : goal.returns
returns c =
    let l = c.args.limit.now in
    let low : numerator_at l.places l.low ≤ℤ c.args.at = omega (arith, ints) in
    let high : c.args.at <ℤ numerator_at l.places l.high = omega (arith, ints) in
    are_halves l c.args.at c.requires low high c.new.result c.new-2.result _ _ c.new.ensures (omega (arith, ints))
    c.new-2.ensures (omega (arith, ints))
