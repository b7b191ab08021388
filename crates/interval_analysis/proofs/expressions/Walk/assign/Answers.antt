use Rattle.pap_tree.specs.Flowchart.{eval, done}
use Rattle.pap_tree.specs.Term.{term_of}
use Rattle.pap_types.specs.private.ScopeViews.{scope_in}
use Rattle.interval_analysis.specs.private.PlanViews.{ranges_in}
use Rattle.interval_analysis.proofs.KeptLemmas.{can_put}
use Rattle.interval_analysis.proofs.VariableLemmas.{held_left}
use Rattle.interval_analysis.specs.private.ExpressionViews.{ranged_in}
use Rattle.interval_analysis.specs.private.StatementViews.{evaluated}
use Rattle.interval_analysis.specs.private.VisitViews.{GathersIn, ComesIn}
use Rattle.interval_analysis.proofs.StopLemmas.{stops_step, with_lost, with_stop}
use Rattle.interval_analysis.proofs.VisitLemmas.{eval_comes, eval_stops}
use Rattle.interval_analysis.proofs.expressions.Walk.assign.Goals as goal

pub put-requires-clause-walk : goal.put-requires-clause-walk
put-requires-clause-walk c =
    let p = c.args.self.now.plan.now in
    can_put p c.args.target.now (term_of c.args.value.now) (ranges_in p c.args.variables.now.ranges.items) c.in-Ok.value.range c.requires.walk.target c.in-Ok.ensures.answer.range

pub put-requires-clause-held : goal.put-requires-clause-held
put-requires-clause-held c = held_left c.args.self.now.plan.now c.args.variables.now c.range_of.new.variables c.in-Ok.ensures.left c.requires.held

pub returns-in_ok-keep_eval-in-Ok-clause-visits : goal.returns-in_ok-keep_eval-in-Ok-clause-visits
returns-in_ok-keep_eval-in-Ok-clause-visits c =
    let w = c.args.self.now in
    eval_comes w c.args.spot c.args.target.now (term_of c.args.value.now) (ranges_in w.plan.now c.args.variables.now.ranges.items) c.in_ok-kept-in-Ok.kept c.in-Ok.value.range c.args.visits.now.known c.keep_eval.new.self.known
    c.in-Ok.ensures.answer.range c.in_ok-kept-in-Ok.ensures.kept c.in_ok-keep_eval-in-Ok.ensures

pub returns-in_err-kept-in-Ok-clause-visits : goal.returns-in_err-kept-in-Ok-clause-visits
returns-in_err-kept-in-Ok-clause-visits c = with_lost c.from_residual.result _ c.from_residual.ensures.1

pub returns-in_err-keep_eval-in-Ok-clause-visits : goal.returns-in_err-keep_eval-in-Ok-clause-visits
returns-in_err-keep_eval-in-Ok-clause-visits c = with_lost c.from_residual-in_err-keep_eval-in-Ok.result _ c.from_residual-in_err-keep_eval-in-Ok.ensures.1

pub returns-in_err-keep_place-in-Err-clause-visits : goal.returns-in_err-keep_place-in-Err-clause-visits
returns-in_err-keep_place-in-Err-clause-visits c = with_lost c.from_residual-in_err-keep_place-in-Err.result _ c.from_residual-in_err-keep_place-in-Err.ensures.1

pub returns-in_ok-keep_place-in-Err-clause-passes : goal.returns-in_ok-keep_place-in-Err-clause-passes
returns-in_ok-keep_place-in-Err-clause-passes c =
    let w = c.args.self.now in
    let rs = c.args.variables.now.ranges.items in
    c.at_node.ensures (evaluated w c.args.spot c.args.target.now c.args.value.now rs)
    (stops_step (ranged_in w (term_of c.args.value.now) 0 rs) _ c.in-Err.stop c.args.spot c.in-Err.ensures.answer)

pub returns-in_ok-keep_place-in-Err-clause-visits : goal.returns-in_ok-keep_place-in-Err-clause-visits
returns-in_ok-keep_place-in-Err-clause-visits c =
    let w = c.args.self.now in
    let rs = c.args.variables.now.ranges.items in
    let t = term_of c.args.value.now in
    let was = c.args.visits.now.known in
    let last = c.keep_place.new.self.known in
    with_stop c.in-Err.stop c.args.spot c.at_node.result (ranged_in w t 0 rs) (GathersIn (scope_in w.plan.now) (ComesIn w c.args.spot (eval c.args.target.now t done) (ranges_in w.plan.now rs)) was last)
    c.in-Err.ensures.answer c.at_node.ensures
    (λ fails. eval_stops w c.args.spot c.args.target.now t (ranges_in w.plan.now rs) was last fails c.in_ok-keep_place-in-Err.ensures)
