use Rattle.std.proofs.Common.{subst}
use Rattle.pap_tree.specs.Flowchart.{flowchart_of}
use Rattle.pap_plan.specs.BoundPlans.{IsBeforeRanges}
use Rattle.pap_plan.specs.StageRefusals.{order_refusal, limits_refusal}
use Rattle.pap_plan.specs.Bindings.{IsUnmatched}
use Rattle.pap_plan.specs.private.BoundViews.{IsMisjudged}
use Rattle.pap_plan.proofs.AcceptLemmas.{passed, misjudged}
use Rattle.pap_plan.proofs.BoundLemmas.{order_early, limits_early, unmatched_early}
use Rattle.pap_plan.proofs.bound.bound_limits.Goals as goal

pub returns-in_err-order-clause-early : goal.returns-in_err-order-clause-early
returns-in_err-order-clause-early c =
    passed IsBeforeRanges c.from_residual.result (order_refusal c.in_err-order.field-0.0)
    (order_early c.in_err-order.field-0.0) c.from_residual.ensures.1

pub returns-in_err-ranges-clause-early : goal.returns-in_err-ranges-clause-early
returns-in_err-ranges-clause-early c =
    passed IsBeforeRanges c.from_residual-in_err-ranges.result (limits_refusal c.in_err-ranges.field-0.0)
    (limits_early c.in_err-ranges.field-0.0) c.from_residual-in_err-ranges.ensures.1

pub returns-in_err-match_limits-clause-early : goal.returns-in_err-match_limits-clause-early
returns-in_err-match_limits-clause-early c =
    passed IsBeforeRanges c.from_residual-in_err-match_limits.result c.in_err-match_limits.field-0.0
    (unmatched_early (flowchart_of c.plan.result.now) c.in_ok-ranges.ranges c.in_err-match_limits.field-0.0
    c.in_err-match_limits.ensures.refused)
    c.from_residual-in_err-match_limits.ensures.1

pub returns-in_err-match_limits-clause-refused : goal.returns-in_err-match_limits-clause-refused
returns-in_err-match_limits-clause-refused c =
    let f = flowchart_of c.args.typed.now in
    passed (IsMisjudged c.args.limits.now f) c.from_residual-in_err-match_limits.result c.in_err-match_limits.field-0.0
    (misjudged c.args.limits.now f c.in_ok-order.order.items c.in_ok-ranges.ranges c.in_err-match_limits.field-0.0
    c.in_ok-order.ensures c.in_ok-ranges.ensures.limits
    (subst (λ p. IsUnmatched (flowchart_of p) c.in_ok-ranges.ranges c.in_err-match_limits.field-0.0) c.plan.ensures.text
    c.in_err-match_limits.ensures.refused))
    c.from_residual-in_err-match_limits.ensures.1
