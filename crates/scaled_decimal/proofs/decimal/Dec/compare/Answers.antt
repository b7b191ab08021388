use Rattle.std.proofs.Common.{rules, arith, FitsSigned}
use Rattle.std.specs.Int.{w128}
use Rattle.std.proofs.lemmas.Int.{to_z-of_z}
use Rattle.scaled_decimal.proofs.OrderLemmas.{order_level, order_longer_left, order_longer_right}
use Rattle.scaled_decimal.proofs.decimal.Dec.compare.Goals as goal

pub returns-then-scale : goal.returns-then-scale
returns-then-scale c =
    let f : FitsSigned w128 c.numerator.result = search rules in
    let g : FitsSigned w128 c.numerator-then-scale.result = search rules in
    let e = simp to_z-of_z at c.cmp.ensures in
    cc (e, order_level c.args.self c.args.b (omega arith))

pub returns-then-scale-2 : goal.returns-then-scale-2
returns-then-scale-2 c =
    let f : FitsSigned w128 c.numerator-then-scale-2.result = search rules in
    let g : FitsSigned w128 c.numerator-then-scale-2-2.result = search rules in
    let e = simp to_z-of_z at c.compare_scaled.ensures in
    cc (e, order_longer_right c.args.self c.args.b (omega arith))

pub returns-else-scale-2 : goal.returns-else-scale-2
returns-else-scale-2 c =
    let f : FitsSigned w128 c.numerator-else-scale-2.result = search rules in
    let g : FitsSigned w128 c.numerator-else-scale-2-2.result = search rules in
    let e = simp to_z-of_z at c.compare_scaled-else-scale-2.ensures in
    cc (e, order_longer_left c.args.self c.args.b (omega arith))
