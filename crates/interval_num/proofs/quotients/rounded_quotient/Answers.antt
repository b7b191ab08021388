use Rattle.interval_num.proofs.QuotientLemmas.{one_quotient}
use Rattle.interval_num.proofs.MachineLemmas.{held_is}
use Rattle.std.proofs.Common.{◌∙◌}
use Rattle.scaled_decimal.specs.Decimals.{numerator_of}
use Rattle.interval_num.proofs.quotients.rounded_quotient.Goals as goal

pub returns-clause-value : goal.returns-clause-value
returns-clause-value c = held_is c.numerator.result c.numerator.ensures.kept ∙ c.numerator.ensures.value ∙ one_quotient c.args.mode c.args.s c.args.x c.args.y (numerator_of c.div.result) c.requires.not_zero c.div.ensures.rounded
