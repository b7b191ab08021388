use Rattle.std.proofs.Common.{rules, arith, FitsSigned, ap}
use Rattle.std.specs.Int.{w128}
use Rattle.std.proofs.lemmas.Int.{to_z-of_z}
use Rattle.scaled_decimal.specs.Decimals.{scale_of}
use Rattle.scaled_decimal.specs.Rounding.{Rounds}
use Rattle.scaled_decimal.proofs.PowerLemmas.{power_le}
use Rattle.scaled_decimal.proofs.QuotientLemmas.{rescaled_longer, rescaled_shorter}
use Rattle.scaled_decimal.proofs.decimal.Dec.set_scale.Goals as goal

pub numerator_at-requires-clause-power : goal.numerator_at-requires-clause-power
numerator_at-requires-clause-power c = power_le _ (omega (arith, c.requires.scale))

pub numerator_at-requires-clause-fits : goal.numerator_at-requires-clause-fits
numerator_at-requires-clause-fits c = (rescaled_longer c.args.mode c.args.self c.args.s (omega (arith, ap scale_of c.self.view_is)) c.requires).0

pub new-requires-clause-numerator : goal.new-requires-clause-numerator
new-requires-clause-numerator c =
    let fits : FitsSigned w128 c.numerator_at.result = search rules in
    rw (to_z-of_z w128 c.numerator_at.result fits, c.numerator_at.ensures) (rescaled_longer c.args.mode c.args.self c.args.s (omega (arith, ap scale_of c.self.view_is)) c.requires).0

pub returns-then-s-self : goal.returns-then-s-self
returns-then-s-self c =
    let fits : FitsSigned w128 c.numerator_at.result = search rules in
    rw (c.new.ensures, to_z-of_z w128 c.numerator_at.result fits, c.numerator_at.ensures) (rescaled_longer c.args.mode c.args.self c.args.s (omega (arith, ap scale_of c.self.view_is)) c.requires).1

pub power_of_ten-requires : goal.power_of_ten-requires
power_of_ten-requires c = power_le _ (omega arith)

pub new-requires-2-clause-numerator : goal.new-requires-2-clause-numerator
new-requires-2-clause-numerator c =
    let fn : FitsSigned w128 c.self.inside.numerator = search rules in
    let fp : FitsSigned w128 c.power_of_ten.result = search rules in
    let fq : FitsSigned w128 c.round_div.result = search rules in
    let rounded : Rounds c.args.mode c.self.inside.numerator c.power_of_ten.result c.round_div.result = simp to_z-of_z at c.round_div.ensures in
    rw (to_z-of_z w128 c.round_div.result fq) (rescaled_shorter c.args.mode c.args.self c.self.inside.numerator _ _ c.self.inside.scale c.args.s c.self.view_is (omega arith) c.power_of_ten.ensures.value c.requires rounded).0

pub returns : goal.returns
returns c =
    let fn : FitsSigned w128 c.self.inside.numerator = search rules in
    let fp : FitsSigned w128 c.power_of_ten.result = search rules in
    let fq : FitsSigned w128 c.round_div.result = search rules in
    let rounded : Rounds c.args.mode c.self.inside.numerator c.power_of_ten.result c.round_div.result = simp to_z-of_z at c.round_div.ensures in
    rw (c.new-2.ensures, to_z-of_z w128 c.round_div.result fq) (rescaled_shorter c.args.mode c.args.self c.self.inside.numerator _ _ c.self.inside.scale c.args.s c.self.view_is (omega arith) c.power_of_ten.ensures.value c.requires rounded).1
