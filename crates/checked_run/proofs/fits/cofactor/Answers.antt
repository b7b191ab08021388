use Rattle.std.proofs.Common.{rules, arith, pos, ◌<ℤ◌, FitsSigned}
use Rattle.std.specs.Int.{w128}
use Rattle.std.proofs.lemmas.Int.{ints, quot_is, quot_fits}
use Rattle.scaled_decimal.proofs.Laws.{power_le, factor_times}
use Rattle.checked_run.proofs.fits.cofactor.Goals as goal

pub power_of_ten-requires : goal.power_of_ten-requires
power_of_ten-requires c = power_le _ (omega (arith, c.requires.few))

pub returns : goal.returns
returns c =
    let fp : FitsSigned w128 c.power_of_ten.result = search rules in
    let fd : FitsSigned w128 c.args.divisor = c.ranges.divisor in
    let positive : pos 0 <ℤ c.args.divisor = omega (arith, ints, c.requires.plain.positive) in
    rw (quot_is w128 c.power_of_ten.result c.args.divisor fp fd (quot_fits w128 c.power_of_ten.result c.args.divisor fp positive)) (factor_times c.args.divisor c.power_of_ten.result c.args.places c.requires.plain.positive c.power_of_ten.ensures.value c.requires.places.divides)
