use Rattle.std.proofs.Common.{◌-◌, ◌≤◌, arith}
use Rattle.std.proofs.Math.Nat.{pow-le-pow_right}
use Rattle.interval_analysis.proofs.StartLemmas.{held_le}
use Rattle.scaled_decimal.specs.Decimals.{scale_of, numerator_at}
use Rattle.interval_analysis.proofs.start.between.Goals as goal

pub numerator_at-requires-clause-power : goal.numerator_at-requires-clause-power
numerator_at-requires-clause-power c =
    let few : c.args.s_hi - scale_of c.args.limit.now.low ≤ 37 = omega (arith, c.requires.places) in
    pow-le-pow_right {n = 10} (omega arith) few

pub numerator_at-requires-2-clause-power : goal.numerator_at-requires-2-clause-power
numerator_at-requires-2-clause-power c =
    let few : c.args.s_hi - scale_of c.args.limit.now.high ≤ 37 = omega (arith, c.requires.places) in
    pow-le-pow_right {n = 10} (omega arith) few

pub new-requires-clause-order : goal.new-requires-clause-order
new-requires-clause-order c =
    held_le c.numerator_at.result c.numerator_at-2.result (numerator_at c.args.s_hi c.args.limit.now.low) (numerator_at c.args.s_hi c.args.limit.now.high) c.numerator_at.ensures c.numerator_at-2.ensures c.requires.low c.requires.high c.requires.order
