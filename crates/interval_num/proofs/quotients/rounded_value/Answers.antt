use Rattle.interval_num.proofs.QuotientLemmas.{one_value}
use Rattle.interval_num.proofs.MachineLemmas.{held_is}
use Rattle.std.proofs.Common.{◌∙◌}
use Rattle.scaled_decimal.specs.Decimals.{numerator_of}
use Rattle.interval_num.proofs.quotients.rounded_value.Goals as goal

pub returns-clause-value : goal.returns-clause-value
returns-clause-value c = held_is c.numerator.result c.numerator.ensures.kept ∙ c.numerator.ensures.value ∙ one_value c.args.mode c.args.s c.args.x (numerator_of c.set_scale.result) c.set_scale.ensures.rounded
