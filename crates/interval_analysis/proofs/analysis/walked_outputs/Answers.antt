use Rattle.std.proofs.Common.{List, sym, ap, ◌∙◌, subst}
use Rattle.interval_num.specs.Intervals.{Interval}
use Rattle.pap_types.specs.Scopes.{scope_of}
use Rattle.pap_tree.specs.Flowchart.{flowchart_of, body_of}
use Rattle.pap_types.specs.Checks.{IsWellTyped}
use Rattle.pap_types.specs.Counts.{IsWithinCounts}
use Rattle.pap_types.specs.Limits.{longest_chain}
use Rattle.pap_tree.specs.private.TreeViews.{methods_in}
use Rattle.pap_types.specs.private.ScopeViews.{scope_in}
use Rattle.interval_walk.specs.Walked.{range_calls_of}
use Rattle.interval_walk.specs.Visits.{BodyComes, CallsCome, WalkComes}
use Rattle.interval_analysis.specs.private.PlanViews.{ranges_in}
use Rattle.interval_analysis.specs.private.VisitViews.{GathersIn}
use Rattle.interval_analysis.proofs.MethodLemmas.{main_body}
use Rattle.interval_analysis.proofs.StopLemmas.{stops_map, with_any, with_err, with_lost}
use Rattle.interval_analysis.proofs.VisitLemmas.{walk_gathers}
use Rattle.interval_analysis.proofs.analysis.walked_outputs.Goals as goal

pub walk_body-requires-clause-walk : goal.walk_body-requires-clause-walk
walk_body-requires-clause-walk c =
    let main = c.as_slice-main.ensures.value ∙ ap (λ p. p.main.items) c.plan.ensures.text in
    let same = sym c.in_ok-tabled.ensures in
    main_body _ (body_of c.as_slice-main.result.now) (ap body_of main ∙ ap (λ p. (flowchart_of p).main) same)
    (subst (λ p. IsWellTyped (flowchart_of p)) same c.plan.ensures.well_typed)
    (subst (λ p. IsWithinCounts (flowchart_of p)) same c.plan.ensures.counted)

pub returns-in_err-ranges-clause-visits : goal.returns-in_err-ranges-clause-visits
returns-in_err-ranges-clause-visits c = with_lost c.from_residual.result _ c.from_residual.ensures.1

pub returns-in_err-tabled-clause-visits : goal.returns-in_err-tabled-clause-visits
returns-in_err-tabled-clause-visits c = with_lost c.from_residual-in_err-tabled.result _ c.from_residual-in_err-tabled.ensures.1

pub returns-in_err-walk_body-clause-visits : goal.returns-in_err-walk_body-clause-visits
returns-in_err-walk_body-clause-visits c =
    let p = c.args.plan.now in
    let q = c.in_ok-tabled.tabled in
    let f = c.in_err-walk_body.field-0.0 in
    let was = c.args.visits.now.known in
    let last = c.walk_body.new.visits.known in
    let main = body_of c.as_slice-main.result.now in
    let From : List Interval → Type 0 =
    λ rs. GathersIn (scope_in q) (λ v. BodyComes (scope_in q) (range_calls_of (scope_in q) (methods_in q) longest_chain) (CallsCome (scope_in q) (methods_in q) longest_chain) c.main.result v 0 main (ranges_in q rs)) was last in
    with_err c.from_residual-in_err-walk_body.result f (GathersIn (scope_of (flowchart_of p)) (WalkComes (flowchart_of p) c.args.limits.now) was last) c.from_residual-in_err-walk_body.ensures.1
    (stops_map f (From c.new-variables.result.ranges.items) (GathersIn (scope_of (flowchart_of p)) (WalkComes (flowchart_of p) c.args.limits.now) was last)
    (λ h. walk_gathers p q c.args.limits.now c.main.result main c.in_ok-ranges.ranges.items was last
    c.in_ok-tabled.ensures c.main.ensures (ap body_of (c.as_slice-main.ensures.value ∙ ap (λ p. p.main.items) c.plan.ensures.text)) c.in_ok-ranges.ensures.ranges
    (subst From c.new-variables.ensures.ranges h))
    c.in_err-walk_body.ensures.visits)

pub returns-clause-visits : goal.returns-clause-visits
returns-clause-visits c =
    let p = c.args.plan.now in
    let q = c.in_ok-tabled.tabled in
    let was = c.args.visits.now.known in
    let last = c.walk_body.new.visits.known in
    let main = body_of c.as_slice-main.result.now in
    let From : List Interval → Type 0 =
    λ rs. GathersIn (scope_in q) (λ v. BodyComes (scope_in q) (range_calls_of (scope_in q) (methods_in q) longest_chain) (CallsCome (scope_in q) (methods_in q) longest_chain) c.main.result v 0 main (ranges_in q rs)) was last in
    with_any c.output_ranges.result (GathersIn (scope_of (flowchart_of p)) (WalkComes (flowchart_of p) c.args.limits.now) was last)
    (walk_gathers p q c.args.limits.now c.main.result main c.in_ok-ranges.ranges.items was last
    c.in_ok-tabled.ensures c.main.ensures (ap body_of (c.as_slice-main.ensures.value ∙ ap (λ p. p.main.items) c.plan.ensures.text)) c.in_ok-ranges.ensures.ranges
    (subst From c.new-variables.ensures.ranges c.in_ok-walk_body.ensures.visits))
