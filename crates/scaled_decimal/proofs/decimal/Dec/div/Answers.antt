use Rattle.std.proofs.Common.{arith, ◌≡◌, ◌+◌, ◌-◌, ◌*ℤ◌, FitsSigned, refl, ap}
use Rattle.std.specs.Int.{w128}
use Rattle.std.proofs.lemmas.Int.{to_z-of_z}
use Rattle.scaled_decimal.specs.Decimals.{scale_of, ten_to}
use Rattle.scaled_decimal.specs.Rounding.{Rounds}
use Rattle.scaled_decimal.proofs.MachineLemmas.{kept_fits}
use Rattle.scaled_decimal.proofs.QuotientLemmas.{quotient_longer, quotient_shorter, longer_not_zero}
use Rattle.scaled_decimal.proofs.decimal.Dec.div.Goals as goal

pub new-requires-clause-numerator : goal.new-requires-clause-numerator
new-requires-clause-numerator c =
    let fx : FitsSigned w128 c.numerator_at.result = record { sfits = c.numerator_at.type_inv } in
    let fd : FitsSigned w128 c.b.inside.numerator = kept_fits _ c.b.invariant.0 in
    let fq : FitsSigned w128 c.round_div.result = record { sfits = c.round_div.type_inv } in
    let rounded : Rounds c.args.mode c.numerator_at.result c.b.inside.numerator c.round_div.result = simp to_z-of_z at c.round_div.ensures in
    rw (to_z-of_z w128 c.round_div.result fq) (quotient_longer c.args.mode c.args.self c.args.b c.b.inside.numerator _ _ c.b.inside.scale c.args.s (c.args.s + c.b.inside.scale) c.b.view_is refl (omega (arith, ap scale_of c.self.view_is)) c.numerator_at.ensures c.requires.fits rounded).0

pub returns-then-places-self : goal.returns-then-places-self
returns-then-places-self c =
    let fx : FitsSigned w128 c.numerator_at.result = record { sfits = c.numerator_at.type_inv } in
    let fd : FitsSigned w128 c.b.inside.numerator = kept_fits _ c.b.invariant.0 in
    let fq : FitsSigned w128 c.round_div.result = record { sfits = c.round_div.type_inv } in
    let rounded : Rounds c.args.mode c.numerator_at.result c.b.inside.numerator c.round_div.result = simp to_z-of_z at c.round_div.ensures in
    rw (c.new.ensures, to_z-of_z w128 c.round_div.result fq) (quotient_longer c.args.mode c.args.self c.args.b c.b.inside.numerator _ _ c.b.inside.scale c.args.s (c.args.s + c.b.inside.scale) c.b.view_is refl (omega (arith, ap scale_of c.self.view_is)) c.numerator_at.ensures c.requires.fits rounded).1

pub round_div-requires-2-clause-not_zero : goal.round_div-requires-2-clause-not_zero
round_div-requires-2-clause-not_zero c =
    let fd : FitsSigned w128 c.b.inside.numerator = kept_fits _ c.b.invariant.0 in
    let fy : FitsSigned w128 c.scaled_up-divisor.result = record { sfits = c.scaled_up-divisor.type_inv } in
    let divisor : c.scaled_up-divisor.result ≡ c.b.inside.numerator *ℤ ten_to (c.self.inside.scale - (c.args.s + c.b.inside.scale)) = simp to_z-of_z at c.scaled_up-divisor.ensures in
    rw (to_z-of_z w128 c.scaled_up-divisor.result fy) (longer_not_zero c.args.b c.b.inside.numerator _ c.b.inside.scale _ c.b.view_is divisor c.requires.not_zero)

pub new-requires-2-clause-numerator : goal.new-requires-2-clause-numerator
new-requires-2-clause-numerator c =
    let fn : FitsSigned w128 c.self.inside.numerator = kept_fits _ c.self.invariant.0 in
    let fd : FitsSigned w128 c.b.inside.numerator = kept_fits _ c.b.invariant.0 in
    let fy : FitsSigned w128 c.scaled_up-divisor.result = record { sfits = c.scaled_up-divisor.type_inv } in
    let fq : FitsSigned w128 c.round_div-2.result = record { sfits = c.round_div-2.type_inv } in
    let divisor : c.scaled_up-divisor.result ≡ c.b.inside.numerator *ℤ ten_to (c.self.inside.scale - (c.args.s + c.b.inside.scale)) = simp to_z-of_z at c.scaled_up-divisor.ensures in
    let rounded : Rounds c.args.mode c.self.inside.numerator c.scaled_up-divisor.result c.round_div-2.result = simp to_z-of_z at c.round_div-2.ensures in
    rw (to_z-of_z w128 c.round_div-2.result fq) (quotient_shorter c.args.mode c.args.self c.args.b c.self.inside.numerator c.b.inside.numerator _ _ c.self.inside.scale c.b.inside.scale c.args.s (c.args.s + c.b.inside.scale) c.self.view_is c.b.view_is refl (omega arith) divisor c.requires.fits rounded).0

pub returns : goal.returns
returns c =
    let fn : FitsSigned w128 c.self.inside.numerator = kept_fits _ c.self.invariant.0 in
    let fd : FitsSigned w128 c.b.inside.numerator = kept_fits _ c.b.invariant.0 in
    let fy : FitsSigned w128 c.scaled_up-divisor.result = record { sfits = c.scaled_up-divisor.type_inv } in
    let fq : FitsSigned w128 c.round_div-2.result = record { sfits = c.round_div-2.type_inv } in
    let divisor : c.scaled_up-divisor.result ≡ c.b.inside.numerator *ℤ ten_to (c.self.inside.scale - (c.args.s + c.b.inside.scale)) = simp to_z-of_z at c.scaled_up-divisor.ensures in
    let rounded : Rounds c.args.mode c.self.inside.numerator c.scaled_up-divisor.result c.round_div-2.result = simp to_z-of_z at c.round_div-2.ensures in
    rw (c.new-2.ensures, to_z-of_z w128 c.round_div-2.result fq) (quotient_shorter c.args.mode c.args.self c.args.b c.self.inside.numerator c.b.inside.numerator _ _ c.self.inside.scale c.b.inside.scale c.args.s (c.args.s + c.b.inside.scale) c.self.view_is c.b.view_is refl (omega arith) divisor c.requires.fits rounded).1
