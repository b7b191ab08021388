use Rattle.std.proofs.Common.{sym, subst}
use Rattle.std.specs.Int.{w128}
use Rattle.std.proofs.lemmas.Int.{to_z-of_z}
use Rattle.scaled_decimal.specs.ExactQuotients.{IsExactQuotient}
use Rattle.scaled_decimal.specs.WorkingNumbers.{ExactQuotientFits}
use Rattle.interval_num.proofs.DivisorLemmas.{reciprocal_fits, reciprocal_is}
use Rattle.interval_num.proofs.quotients.reciprocal.Goals as goal

pub div_exact-requires-clause-fits : goal.div_exact-requires-clause-fits
div_exact-requires-clause-fits c =
    subst (λ d. ExactQuotientFits c.new.result d) (sym (to_z-of_z w128 c.args.d c.ranges.d)) (subst (λ x. ExactQuotientFits x c.args.d) (sym c.new.ensures) (reciprocal_fits c.args.d c.requires))

pub returns : goal.returns
returns c =
    let own = subst (λ d. IsExactQuotient c.new.result d c.div_exact.result) (to_z-of_z w128 c.args.d c.ranges.d) c.div_exact.ensures.exact in
    reciprocal_is c.args.d c.div_exact.result c.requires (subst (λ x. IsExactQuotient x c.args.d c.div_exact.result) c.new.ensures own)
