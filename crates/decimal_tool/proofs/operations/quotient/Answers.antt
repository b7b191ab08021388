use Rattle.std.proofs.Common.{refl, rules, arith, ◌≢◌, pos, FitsSigned}
use Rattle.std.specs.Int.{w128}
use Rattle.std.proofs.lemmas.Int.{to_z-of_z}
use Rattle.scaled_decimal.specs.Decimals.{numerator_of}
use Rattle.scaled_decimal.proofs.Laws.{quotient_fits_longer, quotient_fits_shorter}
use Rattle.decimal_tool.proofs.operations.quotient.Goals as goal

pub div-requires-clause-fits : goal.div-requires-clause-fits
div-requires-clause-fits c =
    let some : numerator_of c.args.b ≢ pos 0 = λ e. c.if-divisor-eq0.false (rw (c.numerator-divisor.ensures.value, e) refl) in
    let held : FitsSigned w128 c.numerator-divisor.result = search rules in
    let lengthened = simp to_z-of_z at c.in_ok-lengthened.ensures.kept in
    let kept = rw (c.numerator-divisor.ensures.value, c.scale.ensures.value, c.scale-then-places-scale.ensures.value) at lengthened in
    let own = rw c.numerator-dividend.ensures.value at c.numerator-dividend.ensures.kept in
    quotient_fits_shorter c.args.mode c.args.a c.args.b c.args.scale some (omega arith) (omega (arith, c.scale.ensures.value, c.scale-2.ensures.value)) (omega (arith, c.scale-2.ensures.value, c.scale-2.ensures.kept)) own kept

pub div-requires-2-clause-fits : goal.div-requires-2-clause-fits
div-requires-2-clause-fits c =
    let some : numerator_of c.args.b ≢ pos 0 = λ e. c.if-divisor-eq0.false (rw (c.numerator-divisor.ensures.value, e) refl) in
    let held : FitsSigned w128 c.numerator-dividend.result = search rules in
    let lengthened = simp to_z-of_z at c.in_ok-lengthened-2.ensures.kept in
    let kept = rw (c.numerator-dividend.ensures.value, c.scale.ensures.value, c.scale-3.ensures.value) at lengthened in
    quotient_fits_longer c.args.mode c.args.a c.args.b c.args.scale some (omega arith) (omega (arith, c.scale.ensures.value, c.scale-2.ensures.value)) (omega (arith, c.scale.ensures.value, c.scale-3.ensures.value)) kept
