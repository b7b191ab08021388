use Rattle.std.proofs.Common.{rules, arith, FitsSigned}
use Rattle.std.specs.Int.{w128}
use Rattle.std.proofs.lemmas.Int.{to_z-of_z}
use Rattle.scaled_decimal.specs.ExactQuotients.{Divides}
use Rattle.scaled_decimal.proofs.PowerLemmas.{power_le}
use Rattle.scaled_decimal.proofs.ExactLemmas.{places_more}
use Rattle.scaled_decimal.proofs.exact.divisor_places.Goals as goal

pub power_of_ten-requires : goal.power_of_ten-requires
power_of_ten-requires c = power_le _ (omega (arith, c.loop-places.invariant.few))

pub loop-places-preserved : goal.loop-places-preserved
loop-places-preserved c =
    let fd : FitsSigned w128 c.args.d = c.ranges.d in
    let fp : FitsSigned w128 c.power_of_ten.result = search rules in
    let test = simp to_z-of_z at c.divides.ensures in
    let least = simp to_z-of_z at c.loop-places.invariant.least in
    let not : Divides c.args.d c.power_of_ten.result → ⊥ = λ h. absurd (let t = test.1 h in cc (c.loop-places-test.true)) in
    let more = places_more c.args.d c.power_of_ten.result c.loop-places.places c.loop-places.invariant.few c.requires.divides c.power_of_ten.ensures.value not least in
    rw (to_z-of_z w128 c.args.d fd) (record { few = more.0; least = more.1 })

pub loop-places-smaller : goal.loop-places-smaller
loop-places-smaller c = let more = (loop-places-preserved c).few in omega (arith, more)

pub returns-clause-places : goal.returns-clause-places
returns-clause-places c =
    let fd : FitsSigned w128 c.args.d = c.ranges.d in
    let fp : FitsSigned w128 c.power_of_ten.result = search rules in
    let test = simp to_z-of_z at c.divides.ensures in
    let least = simp to_z-of_z at c.loop-places.invariant.least in
    record { divides = rw (← c.power_of_ten.ensures.value) (test.0 c.loop-places-test.false); least = least }
