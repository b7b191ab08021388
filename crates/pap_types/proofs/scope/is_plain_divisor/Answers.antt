use Rattle.std.proofs.Common.{◌≡◌, true, arith, ap, ap₂, ◌&&◌, subst, sym, ◌∙◌}
use Rattle.std.specs.Prelude.{◌==◌, ◌↔◌, IsTrue}
use Rattle.std.specs.Int.{w128}
use Rattle.std.proofs.lemmas.Int.{to_z-of_z, fits_signed_from_abs}
use Rattle.scaled_decimal.specs.Decimals.{scale_of, numerator_of}
use Rattle.scaled_decimal.specs.ExactQuotients.{IsPlainDivisor}
use Rattle.pap_types.specs.Kinds.{is_plain_number}
use Rattle.pap_types.proofs.DivisorLemmas.{same_test}
use Rattle.pap_types.proofs.scope.is_plain_divisor.Goals as goal

pub returns-then-scale-eq0 : goal.returns-then-scale-eq0
returns-then-scale-eq0 c =
    let n = numerator_of c.args.number in
    let passes = c.is_plain_divisor.result in
    let numerator = c.numerator.result in
    let fits = fits_signed_from_abs w128 numerator (omega (arith, c.numerator.ensures.kept)) in
    let held = to_z-of_z w128 numerator fits ∙ c.numerator.ensures.value in
    let plain : passes ≡ is_plain_number n =
    same_test passes n (subst (λ m. IsTrue passes ↔ IsPlainDivisor m) held c.is_plain_divisor.ensures) in
    let whole : (scale_of c.args.number == 0) ≡ true =
    ap (λ s. s == 0) (sym c.scale.ensures.value ∙ c.if-scale-eq0.true) in
    ap₂ (λ w p. w && p) (sym whole) plain
