use Rattle.std.proofs.Common.{rules, arith, pos, ◌<ℤ◌, ◌*ℤ◌, ◌≡◌, ◌∙◌, ap, subst, FitsSigned}
use Rattle.std.specs.Int.{w128}
use Rattle.std.proofs.lemmas.Int.{ints, to_z-of_z}
use Rattle.scaled_decimal.specs.Decimals.{numerator_of}
use Rattle.scaled_decimal.specs.Limits.{IsWithinLimit}
use Rattle.scaled_decimal.proofs.Laws.{exact_fits_least}
use Rattle.decimal_tool.proofs.operations.exact_quotient.Goals as goal

pub div_exact-requires-clause-fits : goal.div_exact-requires-clause-fits
div_exact-requires-clause-fits c =
    let fd : FitsSigned w128 c.args.divisor = c.ranges.divisor in
    let plain = simp to_z-of_z at c.is_plain_divisor.ensures in
    let positive : pos 0 <ℤ c.args.divisor = omega (arith, ints, (plain.0 c.if-not-is_plain_divisor.false).positive) in
    let places = simp to_z-of_z at c.divisor_places-places.ensures.places in
    let whole = simp to_z-of_z at c.cofactor.ensures in
    let fn : FitsSigned w128 c.numerator.result = search rules in
    let fc : FitsSigned w128 c.cofactor.result = search rules in
    let fp : FitsSigned w128 c.in_ok-product.product = search rules in
    let kept : IsWithinLimit c.in_ok-product.product = simp to_z-of_z at c.is_within_limit.ensures.0 c.if-is_within_limit.true in
    let product : c.in_ok-product.product ≡ c.numerator.result *ℤ c.cofactor.result = (simp to_z-of_z at c.in_ok-product.ensures).1 in
    let same : c.in_ok-product.product ≡ numerator_of c.args.a *ℤ c.cofactor.result = product ∙ ap (λ n. n *ℤ c.cofactor.result) c.numerator.ensures.value in
    rw (to_z-of_z w128 c.args.divisor fd) (exact_fits_least c.args.a c.args.divisor c.cofactor.result c.divisor_places-places.result positive whole (subst IsWithinLimit same kept) places (omega (arith, c.scale.ensures.value)))
