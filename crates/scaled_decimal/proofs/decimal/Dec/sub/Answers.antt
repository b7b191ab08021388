use Rattle.std.proofs.Common.{arith, ◌≡◌, FitsSigned, ◌-ℤ◌}
use Rattle.std.specs.Int.{w128}
use Rattle.std.proofs.lemmas.Int.{to_z-of_z}
use Rattle.scaled_decimal.specs.Decimals.{numerator_at, greater_scale}
use Rattle.scaled_decimal.specs.Limits.{IsWithinLimit}
use Rattle.scaled_decimal.proofs.PowerLemmas.{power_le}
use Rattle.scaled_decimal.proofs.MachineLemmas.{kept_fits}
use Rattle.scaled_decimal.proofs.decimal.Dec.sub.Goals as goal

pub numerator_at-requires-clause-power : goal.numerator_at-requires-clause-power
numerator_at-requires-clause-power c = power_le _ (omega arith)

pub numerator_at-requires-2-clause-power : goal.numerator_at-requires-2-clause-power
numerator_at-requires-2-clause-power c = power_le _ (omega arith)

pub returns : goal.returns
returns c =
    let s = c.greater_scale-scale.ensures.value in
    let left : c.numerator_at.result ≡ numerator_at (greater_scale c.args.self c.args.b) c.args.self = rw (← s) c.numerator_at.ensures in
    let right : c.numerator_at-2.result ≡ numerator_at (greater_scale c.args.self c.args.b) c.args.b = rw (← s) c.numerator_at-2.ensures in
    let fl : FitsSigned w128 c.numerator_at.result = record { sfits = c.numerator_at.type_inv } in
    let fr : FitsSigned w128 c.numerator_at-2.result = record { sfits = c.numerator_at-2.type_inv } in
    let kept : IsWithinLimit (c.numerator_at.result -ℤ c.numerator_at-2.result) = rw (left, right) c.requires.result in
    let fits : FitsSigned w128 (c.numerator_at.result -ℤ c.numerator_at-2.result) = kept_fits _ kept in
    let made = simp to_z-of_z at c.new.ensures in
    cc (made, left, right, s)
