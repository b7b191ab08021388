use Rattle.std.proofs.Common.{◌∙◌, ap}
use Rattle.scaled_decimal.specs.ShortenedDecimals.{exact_quotient}
use Rattle.run_values.proofs.OperationLemmas.{held_is}
use Rattle.run_values.proofs.operations.exact_quotient.Goals as goal

pub returns : goal.returns
returns c = c.div_exact.ensures.value ∙ ap (exact_quotient c.args.a) (held_is c.numerator.result c.numerator.ensures.kept ∙ c.numerator.ensures.value)
