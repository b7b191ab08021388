use Rattle.std.proofs.Common.{◌≡◌, ◌*ℤ◌, sym, ap, ◌∙◌, subst, rules, FitsSigned}
use Rattle.std.specs.Int.{w128}
use Rattle.std.proofs.lemmas.Int.{to_z-of_z}
use Rattle.scaled_decimal.specs.Decimals.{numerator_of, ten_to}
use Rattle.checked_run.proofs.FitLemmas.{exact_exactly}
use Rattle.checked_run.proofs.fits.exact_quotient_fits.Goals as goal

pub returns : goal.returns
returns c =
    let d = c.numerator-d.result in
    let fd : FitsSigned w128 c.numerator-d.result = search rules in
    let fn : FitsSigned w128 c.numerator.result = search rules in
    let fc : FitsSigned w128 c.cofactor.result = search rules in
    let whole = simp to_z-of_z at c.cofactor.ensures in
    let product = simp to_z-of_z at c.product_of.ensures in
    let exactly =
    exact_exactly c.args.a (numerator_of c.args.divisor) c.cofactor.result (c.numerator.result *ℤ c.cofactor.result)
    c.args.places c.product_of.result c.requires.plain c.requires.places c.requires.few
    (subst (λ d. c.cofactor.result *ℤ d ≡ ten_to c.args.places) c.numerator-d.ensures.value whole)
    (ap (λ n. n *ℤ c.cofactor.result) c.numerator.ensures.value) product in
    (λ t. exactly.0 (sym c.is_some.ensures ∙ t), λ fits. c.is_some.ensures ∙ exactly.1 fits)
