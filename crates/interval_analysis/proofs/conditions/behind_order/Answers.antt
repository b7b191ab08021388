use Rattle.std.proofs.Common.{[], ◌∷◌, ◌∙◌, sym, ap, subst}
use Rattle.scaled_decimal.specs.Decimals.{decimal}
use Rattle.pap_types.specs.declared.kinds.NodeKind.TheVariants.{Int}
use Rattle.interval_walk.specs.Failures.{at_node}
use Rattle.interval_walk.specs.NodeRanges.{read_range}
use Rattle.interval_walk.specs.Ranges.{single}
use Rattle.interval_analysis.specs.private.ExpressionViews.{StopsAs}
use Rattle.interval_analysis.proofs.ComparisonLemmas.{widened, literal_stops, order_err, order_node_stops, order_passes}
use Rattle.interval_analysis.proofs.conditions.behind_order.Goals as goal

pub returns-in_err-literal : goal.returns-in_err-literal
returns-in_err-literal c =
    let k = c.args.number in
    let new = c.new.ensures ∙ ap (λ n. decimal n 0) (widened k c.ranges.number) in
    let order = ap (at_node c.args.at (c.args.left ∷ c.args.right ∷ [])) (sym c.abs_cmp.ensures.exact) ∙ c.in_ok-order.ensures.range in
    let stop = subst (λ d. StopsAs (at_node c.in_ok-order.order.next [] (read_range Int (single d))) c.in_err-literal.field-0.0) new c.in_err-literal.ensures in
    order_err c.args.op k c.args.left c.args.right c.args.at c.in_err-literal.field-0.0 c.from_residual-in_err-literal.result c.from_residual-in_err-literal.ensures.1
    (literal_stops c.args.op k c.args.left c.args.right c.args.at c.in_ok-order.order.range c.in_ok-order.order.next order c.in_ok-order.ensures.next c.in_err-literal.field-0.0 stop)

pub returns-in_err-compared : goal.returns-in_err-compared
returns-in_err-compared c =
    let k = c.args.number in
    let new = c.new.ensures ∙ ap (λ n. decimal n 0) (widened k c.ranges.number) in
    let order = ap (at_node c.args.at (c.args.left ∷ c.args.right ∷ [])) (sym c.abs_cmp.ensures.exact) ∙ c.in_ok-order.ensures.range in
    let literal = ap (λ d. at_node c.in_ok-order.order.next [] (read_range Int (single d))) (sym new) ∙ c.in_ok-literal.ensures.range in
    let stop = subst (λ x. StopsAs (at_node c.in_ok-literal.literal.next (c.in_ok-order.order.range ∷ c.in_ok-literal.literal.range ∷ []) x) c.in_err-compared.field-0.0) c.comparison_range-compared.ensures c.in_err-compared.ensures in
    order_err c.args.op k c.args.left c.args.right c.args.at c.in_err-compared.field-0.0 c.from_residual-in_err-compared.result c.from_residual-in_err-compared.ensures.1
    (order_node_stops c.args.op k c.args.left c.args.right c.args.at c.in_ok-order.order.range c.in_ok-order.order.next order c.in_ok-order.ensures.next c.in_ok-literal.literal.range c.in_ok-literal.literal.next literal c.in_ok-literal.ensures.next c.in_err-compared.field-0.0 stop)

pub returns : goal.returns
returns c =
    let k = c.args.number in
    let new = c.new.ensures ∙ ap (λ n. decimal n 0) (widened k c.ranges.number) in
    let order = ap (at_node c.args.at (c.args.left ∷ c.args.right ∷ [])) (sym c.abs_cmp.ensures.exact) ∙ c.in_ok-order.ensures.range in
    let literal = ap (λ d. at_node c.in_ok-order.order.next [] (read_range Int (single d))) (sym new) ∙ c.in_ok-literal.ensures.range in
    let compared = ap (at_node c.in_ok-literal.literal.next (c.in_ok-order.order.range ∷ c.in_ok-literal.literal.range ∷ [])) (sym c.comparison_range-compared.ensures) ∙ c.in_ok-compared.ensures.range in
    order_passes c.args.op k c.args.left c.args.right c.args.at c.in_ok-order.order.range c.in_ok-order.order.next order c.in_ok-order.ensures.next c.in_ok-literal.literal.range c.in_ok-literal.literal.next literal c.in_ok-literal.ensures.next c.in_ok-compared.compared.range c.in_ok-compared.compared.next compared c.in_ok-compared.ensures.next
