use Rattle.scaled_decimal.specs.laws.RoundingLaws.{rounds_exactly_one}
use Rattle.scaled_decimal.proofs.rounding.each_quotient_has_one_rounding.Goals as goal

pub returns : goal.returns
returns c = rounds_exactly_one
