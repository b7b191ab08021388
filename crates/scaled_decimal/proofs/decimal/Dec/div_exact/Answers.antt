use Rattle.std.proofs.Common.{◌≡◌, ◌+◌, ◌*ℤ◌, ◌≤◌, rules, arith, FitsSigned, int_div}
use Rattle.std.specs.Int.{w128}
use Rattle.std.proofs.lemmas.Int.{to_z-of_z}
use Rattle.scaled_decimal.specs.Decimals.{decimal, numerator_of, scale_of}
use Rattle.scaled_decimal.proofs.Laws.{exact_quotient_only}
use Rattle.scaled_decimal.proofs.PowerLemmas.{power_le}
use Rattle.scaled_decimal.proofs.MachineLemmas.{kept_fits}
use Rattle.scaled_decimal.proofs.ExactLemmas.{worked, shortened_quotient}
use Rattle.scaled_decimal.proofs.decimal.Dec.div_exact.Goals as goal

pub power_of_ten-requires : goal.power_of_ten-requires
power_of_ten-requires c = power_le _ (omega arith)

pub overflow_mul-numerator : goal.overflow_mul-numerator
overflow_mul-numerator c =
    let fn : FitsSigned w128 c.numerator.result = search rules in
    let fp : FitsSigned w128 c.power_of_ten.result = search rules in
    let w = worked c.args.self c.args.d c.numerator.result c.power_of_ten.result c.divisor_places-places.result fn fp c.ranges.d c.numerator.ensures.value c.power_of_ten.ensures.value c.requires.plain.positive c.divisor_places-places.ensures.places c.requires.fits in
    rw w.product (kept_fits _ w.kept)

pub new-requires-clause-numerator : goal.new-requires-clause-numerator
new-requires-clause-numerator c =
    let fn : FitsSigned w128 c.numerator.result = search rules in
    let fp : FitsSigned w128 c.power_of_ten.result = search rules in
    let w = worked c.args.self c.args.d c.numerator.result c.power_of_ten.result c.divisor_places-places.result fn fp c.ranges.d c.numerator.ensures.value c.power_of_ten.ensures.value c.requires.plain.positive c.divisor_places-places.ensures.places c.requires.fits in
    rw (w.product, to_z-of_z w128 _ (kept_fits _ w.kept)) w.kept

pub new-requires-clause-scale : goal.new-requires-clause-scale
new-requires-clause-scale c =
    rw c.scale.ensures.value (c.requires.fits.scale c.divisor_places-places.result (rw (to_z-of_z w128 c.args.d c.ranges.d) at c.divisor_places-places.ensures.places))

pub returns-clause-exact : goal.returns-clause-exact
returns-clause-exact c =
    let fn : FitsSigned w128 c.numerator.result = search rules in
    let fp : FitsSigned w128 c.power_of_ten.result = search rules in
    let factor = int_div c.power_of_ten.result c.args.d in
    let k = c.divisor_places-places.result in
    let w = worked c.args.self c.args.d c.numerator.result c.power_of_ten.result k fn fp c.ranges.d c.numerator.ensures.value c.power_of_ten.ensures.value c.requires.plain.positive c.divisor_places-places.ensures.places c.requires.fits in
    let long : c.new.result ≡ decimal (numerator_of c.args.self *ℤ factor) (scale_of c.args.self + k) = rw (w.product, to_z-of_z w128 _ (kept_fits _ w.kept), c.numerator.ensures.value, c.scale.ensures.value) at c.new.ensures in
    let enough : c.scale-2.result ≤ scale_of c.new.result = rw long (omega (arith, c.scale-2.ensures.value)) in
    let made = rw (long, c.scale-2.ensures.value) at (c.shortened.ensures.short enough) in
    shortened_quotient c.args.self c.args.d factor k c.shortened.result c.requires.plain.positive w.factor made

pub returns-clause-value : goal.returns-clause-value
returns-clause-value c = exact_quotient_only c.args.self c.args.d c.shortened.result c.requires.plain (returns-clause-exact c)
