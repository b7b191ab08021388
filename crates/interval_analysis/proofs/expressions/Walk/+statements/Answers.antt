use Rattle.std.proofs.Common.{Ok, Err, [], ◌≡◌, ◌+◌, ◌-◌, drop, sym, ap, ◌∙◌, subst, arith}
use Rattle.pap_tree.specs.declared.plan.Stmt.{Stmt}
use Rattle.std.proofs.lemmas.List.{drop_all}
use Rattle.pap_tree.specs.Flowchart.{body_of, stmt_then, done}
use Rattle.pap_tree.specs.Term.{term_of}
use Rattle.pap_tree.specs.Statements.{written}
use Rattle.pap_tree.proofs.Laws.{stmt_at, branch_is, written_at}
use Rattle.pap_types.specs.Routines.{body_named}
use Rattle.pap_types.specs.private.ScopeViews.{scope_in}
use Rattle.interval_analysis.specs.private.PlanViews.{ranges_in, branches_in}
use Rattle.pap_tree.specs.private.TreeViews.{if_of, methods_in}
use Rattle.interval_analysis.specs.private.StatementViews.{joined_lists, first_spot, CanWalkBody, Passes, through_body, through_both, through_fork, through_if, walked_in, met_in, executed}
use Rattle.interval_analysis.specs.private.StopViews.{FaultOf, StopsWith, WithMemory}
use Rattle.interval_analysis.specs.private.TestViews.{tested_in}
use Rattle.interval_analysis.specs.declared.statements.Fork.{Fork}
use Rattle.interval_analysis.specs.private.Changes.{changed}
use Rattle.interval_analysis.specs.private.Meetings.{MeetsAnswer}
use Rattle.interval_analysis.specs.private.VisitViews.{GathersIn, ComesIn, ComesInBoth, ComesInCall, ComesInLists}
use Rattle.interval_analysis.proofs.VisitLemmas.{gather_none, turn_gathers, stop_gathers, if_comes_on, if_stops, no_list, first_list, second_list, both_lists, both_come, both_come_back, execute_comes, call_gathers, no_chain_gathers, no_method_gathers}
use Rattle.interval_analysis.proofs.StopLemmas.{both_ok, stops_any, stops_step, stops_map, with_err, with_lost, with_stop}
use Rattle.interval_analysis.proofs.NoteLemmas.{noted_then, since}
use Rattle.interval_analysis.proofs.RepeatLemmas.{noted_longer}
use Rattle.interval_analysis.proofs.BodyLemmas.{can_here, can_rest}
use Rattle.interval_analysis.proofs.VariableLemmas.{goes_again, goes_noted, goes_then, trimmed}
use Rattle.interval_analysis.proofs.StatementLemmas.{step_on, step_stops, fault_as, passes_not, env_err, passes_to, if_forks, if_passes, both_join, both_join_back, both_stop, both_stop_back, both_fault, no_chain, no_method, calls_body}
use Rattle.interval_analysis.proofs.expressions.Walk.+statements.Goals as goal

pub walk_body-trim-requires : goal.walk_body-trim-requires
walk_body-trim-requires t c =
    let was = c.args.variables.now in
    let longer = noted_longer was c.loop-stmt.variables c.loop-stmt.invariant.on.noted in
    omega (arith, longer, c.len-mark.ensures, was.notes.ok.0)

pub walk_body-returns-in_err-trim-clause-on : goal.walk_body-returns-in_err-trim-clause-on
walk_body-returns-in_err-trim-clause-on t c =
    let was = c.args.variables.now in
    trimmed c.args.self.now.plan.now was c.loop-stmt.variables c.trim.new.self c.len-mark.result (c.len-mark.ensures ∙ was.notes.ok.0) c.requires.held c.loop-stmt.invariant.on c.in_err-trim.ensures.ranges c.in_err-trim.ensures.back

pub walk_body-walk_statement-requires : goal.walk_body-walk_statement-requires
walk_body-walk_statement-requires t c =
    let w = c.args.self.now in
    let was = c.args.variables.now in
    let body = c.args.body.now in
    let i = c.loop-stmt.stmt-index in
    let s = c.stmt-item.result in
    let is = stmt_at body i s c.stmt-item.is c.loop-stmt-test.true in
    let count = written_at body i s c.stmt-item.is c.loop-stmt-test.true in
    let walk = subst (λ b. CanWalkBody w b c.loop-stmt.next) is c.loop-stmt.invariant.walk in
    let on = trimmed w.plan.now was c.loop-stmt.variables c.trim.new.self c.len-mark.result (c.len-mark.ensures ∙ was.notes.ok.0) c.requires.held c.loop-stmt.invariant.on c.in_ok-trim.ensures.ranges c.in_ok-trim.ensures.back in
    (omega (arith, count, c.loop-stmt.invariant.number, c.loop-stmt.invariant.above, c.decreases), (can_here w c.loop-stmt.next s (body_of (drop (i + 1) body)) walk, on.held))

pub walk_body-returns-in_err-next-clause-passes : goal.walk_body-returns-in_err-next-clause-passes
walk_body-returns-in_err-next-clause-passes t c =
    let w = c.args.self.now in
    let spot = c.args.spot in
    let body = c.args.body.now in
    let i = c.loop-stmt.stmt-index in
    let s = c.stmt-item.result in
    let next = c.loop-stmt.next in
    let rest = body_of (drop (i + 1) body) in
    let rs = c.trim.new.self.ranges.items in
    let f = c.in_err-next.field-0.0 in
    let is = stmt_at body i s c.stmt-item.is c.loop-stmt-test.true in
    let whole = through_body w spot (body_of body) c.args.variables.now.ranges.items in
    let same =
    sym c.loop-stmt.invariant.left
    ∙ ap (λ b. walked_in w (record spot { at = next }) b c.loop-stmt.variables.ranges.items) is
    ∙ ap (walked_in w (record spot { at = next }) (stmt_then s rest)) (sym c.in_ok-trim.ensures.ranges) in
    passes_not whole c.walk_statement.new.variables.ranges.items c.from_residual-in_err-next.result f c.from_residual-in_err-next.ensures.1
    (fault_as whole.ranges (walked_in w (record spot { at = next }) (stmt_then s rest) rs) f same (step_stops w (record spot { at = next }) s rest rs f c.in_err-next.ensures.passes))

pub walk_body-returns-in_err-trim-clause-visits : goal.walk_body-returns-in_err-trim-clause-visits
walk_body-returns-in_err-trim-clause-visits t c = with_lost c.from_residual.result _ c.from_residual.ensures.1

pub walk_body-returns-in_err-next-clause-visits : goal.walk_body-returns-in_err-next-clause-visits
walk_body-returns-in_err-next-clause-visits t c =
    let w = c.args.self.now in
    let p = w.plan.now in
    let spot = c.args.spot in
    let body = c.args.body.now in
    let i = c.loop-stmt.stmt-index in
    let s = c.stmt-item.result in
    let next = c.loop-stmt.next in
    let rest = body_of (drop (i + 1) body) in
    let rs = c.trim.new.self.ranges.items in
    let f = c.in_err-next.field-0.0 in
    let known = c.loop-stmt.visits.known in
    let last = c.walk_statement.new.visits.known in
    let is = stmt_at body i s c.stmt-item.is c.loop-stmt-test.true in
    with_err c.from_residual-in_err-next.result f
    (GathersIn (scope_in p) (ComesIn w spot (body_of body) (ranges_in p c.args.variables.now.ranges.items)) c.args.visits.now.known last)
    c.from_residual-in_err-next.ensures.1
    (stops_map f
    (GathersIn (scope_in p) (ComesIn w (record spot { at = next }) (stmt_then s rest) (ranges_in p rs)) known last)
    (GathersIn (scope_in p) (ComesIn w spot (body_of body) (ranges_in p c.args.variables.now.ranges.items)) c.args.visits.now.known last)
    (λ h. c.loop-stmt.invariant.gathers last
    (subst (λ rs. GathersIn (scope_in p) (ComesIn w (record spot { at = next }) (body_of (drop i body)) (ranges_in p rs)) known last) c.in_ok-trim.ensures.ranges
    (subst (λ b. GathersIn (scope_in p) (ComesIn w (record spot { at = next }) b (ranges_in p rs)) known last) (sym is) h)))
    (stop_gathers w (record spot { at = next }) s rest rs f known last c.in_err-next.ensures.passes c.in_err-next.ensures.visits))

pub walk_body-returns-in_err-next-clause-on : goal.walk_body-returns-in_err-next-clause-on
walk_body-returns-in_err-next-clause-on t c =
    let p = c.args.self.now.plan.now in
    let was = c.args.variables.now in
    let on = trimmed p was c.loop-stmt.variables c.trim.new.self c.len-mark.result (c.len-mark.ensures ∙ was.notes.ok.0) c.requires.held c.loop-stmt.invariant.on c.in_ok-trim.ensures.ranges c.in_ok-trim.ensures.back in
    goes_then p was c.trim.new.self c.walk_statement.new.variables on c.in_err-next.ensures.on

pub walk_body-loop-stmt-preserved : goal.walk_body-loop-stmt-preserved
walk_body-loop-stmt-preserved t c =
    let w = c.args.self.now in
    let p = w.plan.now in
    let was = c.args.variables.now in
    let spot = c.args.spot in
    let body = c.args.body.now in
    let i = c.loop-stmt.stmt-index in
    let s = c.stmt-item.result in
    let next = c.loop-stmt.next in
    let rest = body_of (drop (i + 1) body) in
    let rs = c.trim.new.self.ranges.items in
    let is = stmt_at body i s c.stmt-item.is c.loop-stmt-test.true in
    let count = written_at body i s c.stmt-item.is c.loop-stmt-test.true in
    let walk = subst (λ b. CanWalkBody w b next) is c.loop-stmt.invariant.walk in
    let step = c.in_ok-next.ensures.passes in
    let on = trimmed p was c.loop-stmt.variables c.trim.new.self c.len-mark.result (c.len-mark.ensures ∙ was.notes.ok.0) c.requires.held c.loop-stmt.invariant.on c.in_ok-trim.ensures.ranges c.in_ok-trim.ensures.back in
    record {
      number = omega (arith, count, c.loop-stmt.invariant.number, step.1);
      above = omega (arith, c.loop-stmt.invariant.above, step.1);
      walk = subst (CanWalkBody w rest) (sym step.1) (can_rest w next s rest walk);
      left =
          step_on w (record spot { at = next }) s rest c.in_ok-next.next rs c.walk_statement.new.variables.ranges.items step.0 step.1
          ∙ ap (λ b. walked_in w (record spot { at = next }) b rs) (sym is)
          ∙ ap (walked_in w (record spot { at = next }) (body_of (drop i body))) c.in_ok-trim.ensures.ranges
          ∙ c.loop-stmt.invariant.left;
      on = goes_then p was c.trim.new.self c.walk_statement.new.variables on c.in_ok-next.ensures.on;
      gathers =
          λ last h. c.loop-stmt.invariant.gathers last
          (subst (λ rs. GathersIn (scope_in w.plan.now) (ComesIn w (record spot { at = next }) (body_of (drop i body)) (ranges_in p rs)) c.loop-stmt.visits.known last) c.in_ok-trim.ensures.ranges
          (subst (λ b. GathersIn (scope_in w.plan.now) (ComesIn w (record spot { at = next }) b (ranges_in p rs)) c.loop-stmt.visits.known last) (sym is)
          (turn_gathers w (record spot { at = next }) s rest c.in_ok-next.next rs c.walk_statement.new.variables.ranges.items c.loop-stmt.visits.known c.walk_statement.new.visits.known last
          c.in_ok-next.ensures.visits step.0 step.1 h)));
    }

pub walk_body-returns-clause-visits : goal.walk_body-returns-clause-visits
walk_body-returns-clause-visits t c =
    let w = c.args.self.now in
    let known = c.loop-stmt.visits.known in
    let end : drop c.loop-stmt.stmt-index c.args.body.now ≡ [] = drop_all c.loop-stmt.stmt-index c.args.body.now (omega (arith, c.loop-stmt-test.false)) in
    c.loop-stmt.invariant.gathers known
    (subst (λ xs. GathersIn (scope_in w.plan.now) (ComesIn w (record c.args.spot { at = c.loop-stmt.next }) (body_of xs) (ranges_in w.plan.now c.loop-stmt.variables.ranges.items)) known known) (sym end)
    (gather_none (scope_in w.plan.now) (λ v. ⊥) known (λ v n. n)))

pub walk_fork-returns-in-None-fails-clause-visits : goal.walk_fork-returns-in-None-fails-clause-visits
walk_fork-returns-in-None-fails-clause-visits t c =
    stops_any c.nowhere_at.result _ (no_list c.args.self.now c.args.spot (body_of c.args.fork.now.yes.now) (body_of c.args.fork.now.no.now) c.args.variables.now.ranges.items c.args.branches c.args.visits.now.known c.in-None.is c.in-None-fails.is)

pub walk_fork-returns-in-None-clause-visits : goal.walk_fork-returns-in-None-clause-visits
walk_fork-returns-in-None-clause-visits t c =
    second_list c.args.self.now c.args.spot c.walk_second.result c.args.fork.now c.args.variables.now.ranges.items c.deref.result.now c.args.branches c.in-Some-fails.failed c.args.visits.now.known c.walk_second.new.visits.known
    c.in-None.is c.in-Some-fails.is c.deref.ensures.value c.walk_second.ensures.visits

pub walk_fork-returns-in-None-fails-2-clause-visits : goal.walk_fork-returns-in-None-fails-2-clause-visits
walk_fork-returns-in-None-fails-2-clause-visits t c =
    first_list c.args.self.now c.args.spot c.walk_first.result c.args.fork.now c.args.variables.now.ranges.items c.deref-in-None-fails-2.result.now c.args.branches c.in-Some.held c.args.visits.now.known c.walk_first.new.visits.known
    c.in-Some.is c.in-None-fails-2.is c.deref-in-None-fails-2.ensures.value c.walk_first.ensures.visits

pub walk_fork-returns-clause-visits : goal.walk_fork-returns-clause-visits
walk_fork-returns-clause-visits t c =
    both_lists c.args.self.now c.args.spot c.walk_both.result c.args.fork.now c.args.variables.now.ranges.items c.deref-in-Some-fails-2.result.now c.deref-in-Some-fails-2-2.result.now c.args.branches c.in-Some.held c.in-Some-fails-2.failed
    c.args.visits.now.known c.walk_both.new.visits.known c.in-Some.is c.in-Some-fails-2.is c.deref-in-Some-fails-2.ensures.value c.deref-in-Some-fails-2-2.ensures.value c.walk_both.ensures.visits

pub walk_method-returns-then-chain-eq0-clause-passes : goal.walk_method-returns-then-chain-eq0-clause-passes
walk_method-returns-then-chain-eq0-clause-passes t c =
    let w = c.args.self.now in
    let p = w.plan.now in
    let rs = c.args.variables.now.ranges.items in
    c.nowhere_at.ensures (executed w c.args.name.now c.args.chain rs) (no_chain (scope_in p) (methods_in p) c.args.name.now (ranges_in p rs) c.args.chain c.if-chain-eq0.true)

pub walk_method-returns-then-chain-eq0-clause-visits : goal.walk_method-returns-then-chain-eq0-clause-visits
walk_method-returns-then-chain-eq0-clause-visits t c =
    let w = c.args.self.now in
    stops_any c.nowhere_at.result _
    (no_chain_gathers w c.args.name.now c.args.chain (ranges_in w.plan.now c.args.variables.now.ranges.items) c.args.visits.now.known c.if-chain-eq0.true)

pub walk_method-returns-in_err-walk_body-in-Some-clause-passes : goal.walk_method-returns-in_err-walk_body-in-Some-clause-passes
walk_method-returns-in_err-walk_body-in-Some-clause-passes t c =
    let w = c.args.self.now in
    let p = w.plan.now in
    let rs = c.args.variables.now.ranges.items in
    let b = body_of c.in-Some.body.now in
    let f = c.in_err-walk_body-in-Some.field-0.0 in
    let r = executed w c.args.name.now c.args.chain rs in
    let is = calls_body (scope_in p) (methods_in p) c.args.name.now (ranges_in p rs) c.args.chain b c.if-chain-eq0.false (sym (c.in-Some.ensures.body ∙ ap (λ p. body_named (methods_in p) c.args.name.now) c.typed.ensures)) in
    env_err w r c.walk_body.new.variables.ranges.items c.from_residual.result f c.from_residual.ensures.1
    (fault_as r (walked_in w (record { method = c.args.name.now; at = 0; chain = c.args.chain - 1 }) b rs) f is c.in_err-walk_body-in-Some.ensures.passes)

pub walk_method-returns-in_err-walk_body-in-Some-clause-visits : goal.walk_method-returns-in_err-walk_body-in-Some-clause-visits
walk_method-returns-in_err-walk_body-in-Some-clause-visits t c =
    let w = c.args.self.now in
    let m = c.args.name.now in
    let env = ranges_in w.plan.now c.args.variables.now.ranges.items in
    let b = body_of c.in-Some.body.now in
    let f = c.in_err-walk_body-in-Some.field-0.0 in
    let was = c.args.visits.now.known in
    let last = c.walk_body.new.visits.known in
    let Called : Type 0 = GathersIn (scope_in w.plan.now) (ComesInCall w m c.args.chain env) was last in
    with_err c.from_residual.result f Called c.from_residual.ensures.1
    (stops_map f (GathersIn (scope_in w.plan.now) (ComesIn w (record { method = m; at = 0; chain = c.args.chain - 1 }) b env) was last) Called
    (call_gathers w m c.args.chain b env was last c.if-chain-eq0.false (sym (c.in-Some.ensures.body ∙ ap (λ p. body_named (methods_in p) m) c.typed.ensures)))
    c.in_err-walk_body-in-Some.ensures.visits)

pub walk_method-returns-in_ok-walk_body-in-Some-clause-passes : goal.walk_method-returns-in_ok-walk_body-in-Some-clause-passes
walk_method-returns-in_ok-walk_body-in-Some-clause-passes t c =
    let p = c.args.self.now.plan.now in
    calls_body (scope_in p) (methods_in p) c.args.name.now (ranges_in p c.args.variables.now.ranges.items) c.args.chain (body_of c.in-Some.body.now) c.if-chain-eq0.false (sym (c.in-Some.ensures.body ∙ ap (λ p. body_named (methods_in p) c.args.name.now) c.typed.ensures))
    ∙ c.in_ok-walk_body-in-Some.ensures.passes.0

pub walk_method-returns-in_ok-walk_body-in-Some-clause-visits : goal.walk_method-returns-in_ok-walk_body-in-Some-clause-visits
walk_method-returns-in_ok-walk_body-in-Some-clause-visits t c =
    let w = c.args.self.now in
    call_gathers w c.args.name.now c.args.chain (body_of c.in-Some.body.now) (ranges_in w.plan.now c.args.variables.now.ranges.items) c.args.visits.now.known c.walk_body.new.visits.known c.if-chain-eq0.false
    (sym (c.in-Some.ensures.body ∙ ap (λ p. body_named (methods_in p) c.args.name.now) c.typed.ensures)) c.in_ok-walk_body-in-Some.ensures.visits

pub walk_method-returns-in-None-clause-passes : goal.walk_method-returns-in-None-clause-passes
walk_method-returns-in-None-clause-passes t c =
    let w = c.args.self.now in
    let p = w.plan.now in
    let rs = c.args.variables.now.ranges.items in
    c.nowhere_at-in-None.ensures (executed w c.args.name.now c.args.chain rs)
    (no_method (scope_in p) (methods_in p) c.args.name.now (ranges_in p rs) c.args.chain (sym (c.in-None.ensures.body ∙ ap (λ p. body_named (methods_in p) c.args.name.now) c.typed.ensures)))

pub walk_method-returns-in-None-clause-visits : goal.walk_method-returns-in-None-clause-visits
walk_method-returns-in-None-clause-visits t c =
    let w = c.args.self.now in
    stops_any c.nowhere_at-in-None.result _
    (no_method_gathers w c.args.name.now c.args.chain (ranges_in w.plan.now c.args.variables.now.ranges.items) c.args.visits.now.known
    (sym (c.in-None.ensures.body ∙ ap (λ p. body_named (methods_in p) c.args.name.now) c.typed.ensures)))

pub walk_statement-walk_if-requires : goal.walk_statement-walk_if-requires
walk_statement-walk_if-requires t c =
    let is = branch_is c.args.stmt.now c.in-If.test c.in-If.yes c.in-If.no c.deref.result.now c.deref-in-If.result.now c.in-If.is c.deref.ensures.value c.deref-in-If.ensures.value done in
    let count = ap written is in
    (omega (arith, count, c.decreases), (subst (λ b. CanWalkBody c.args.self.now b c.args.spot.at) is c.requires.walk, c.requires.held))

pub walk_statement-returns-in_ok-assign-in-Eval-clause-visits : goal.walk_statement-returns-in_ok-assign-in-Eval-clause-visits
walk_statement-returns-in_ok-assign-in-Eval-clause-visits t c =
    let w = c.args.self.now in
    subst (λ s. GathersIn (scope_in w.plan.now) (ComesIn w c.args.spot (stmt_then s done) (ranges_in w.plan.now c.args.variables.now.ranges.items)) c.args.visits.now.known c.assign.new.visits.known) (sym c.in-Eval.is)
    c.in_ok-assign-in-Eval.ensures.visits

pub walk_statement-returns-in_ok-assign-in-Eval-clause-passes : goal.walk_statement-returns-in_ok-assign-in-Eval-clause-passes
walk_statement-returns-in_ok-assign-in-Eval-clause-passes t c =
    let w = c.args.self.now in
    let spot = c.args.spot in
    let rs = c.args.variables.now.ranges.items in
    subst (λ s. Passes (through_body w spot (stmt_then s done) rs) c.assign.new.variables.ranges.items (Ok (spot.at + 1))) (sym c.in-Eval.is)
    (c.in_ok-assign-in-Eval.ensures.passes, omega arith)

pub walk_statement-returns-in_err-assign-in-Eval-clause-passes : goal.walk_statement-returns-in_err-assign-in-Eval-clause-passes
walk_statement-returns-in_err-assign-in-Eval-clause-passes t c =
    let w = c.args.self.now in
    let spot = c.args.spot in
    let rs = c.args.variables.now.ranges.items in
    let f = c.in_err-assign-in-Eval.field-0.0 in
    passes_not (through_body w spot (stmt_then c.args.stmt.now done) rs) c.assign.new.variables.ranges.items c.from_residual.result f c.from_residual.ensures.1
    (subst (λ s. FaultOf (walked_in w spot (stmt_then s done) rs) f) (sym c.in-Eval.is) c.in_err-assign-in-Eval.ensures.passes)

pub walk_statement-returns-in_err-assign-in-Eval-clause-visits : goal.walk_statement-returns-in_err-assign-in-Eval-clause-visits
walk_statement-returns-in_err-assign-in-Eval-clause-visits t c =
    let w = c.args.self.now in
    let f = c.in_err-assign-in-Eval.field-0.0 in
    let Comes : Stmt → Type 0 = λ s. GathersIn (scope_in w.plan.now) (ComesIn w c.args.spot (stmt_then s done) (ranges_in w.plan.now c.args.variables.now.ranges.items)) c.args.visits.now.known c.assign.new.visits.known in
    with_err c.from_residual.result f (Comes c.args.stmt.now) c.from_residual.ensures.1
    (subst (λ s. StopsWith f (Comes s)) (sym c.in-Eval.is) c.in_err-assign-in-Eval.ensures.visits)

pub walk_statement-returns-in_err-keep_place-in-Execute-clause-visits : goal.walk_statement-returns-in_err-keep_place-in-Execute-clause-visits
walk_statement-returns-in_err-keep_place-in-Execute-clause-visits t c = with_lost c.from_residual-in_err-keep_place-in-Execute.result _ c.from_residual-in_err-keep_place-in-Execute.ensures.1

pub walk_statement-returns-in_err-walk_method-in-Execute-clause-visits : goal.walk_statement-returns-in_err-walk_method-in-Execute-clause-visits
walk_statement-returns-in_err-walk_method-in-Execute-clause-visits t c =
    let w = c.args.self.now in
    let env = ranges_in w.plan.now c.args.variables.now.ranges.items in
    let f = c.in_err-walk_method-in-Execute.field-0.0 in
    let was = c.args.visits.now.known in
    let mid = c.keep_place.new.self.known in
    let last = c.walk_method.new.visits.known in
    let Comes : Stmt → Type 0 = λ s. GathersIn (scope_in w.plan.now) (ComesIn w c.args.spot (stmt_then s done) env) was last in
    with_err c.from_residual-in_err-walk_method-in-Execute.result f (Comes c.args.stmt.now) c.from_residual-in_err-walk_method-in-Execute.ensures.1
    (stops_map f (GathersIn (scope_in w.plan.now) (ComesInCall w c.in-Execute.method c.args.spot.chain env) mid last) (Comes c.args.stmt.now)
    (λ h. subst Comes (sym c.in-Execute.is) (execute_comes w c.args.spot c.in-Execute.method env was mid last c.in_ok-keep_place-in-Execute.ensures h))
    c.in_err-walk_method-in-Execute.ensures.visits)

pub walk_statement-returns-in_ok-walk_method-in-Execute-clause-visits : goal.walk_statement-returns-in_ok-walk_method-in-Execute-clause-visits
walk_statement-returns-in_ok-walk_method-in-Execute-clause-visits t c =
    let w = c.args.self.now in
    let env = ranges_in w.plan.now c.args.variables.now.ranges.items in
    subst (λ s. GathersIn (scope_in w.plan.now) (ComesIn w c.args.spot (stmt_then s done) env) c.args.visits.now.known c.walk_method.new.visits.known) (sym c.in-Execute.is)
    (execute_comes w c.args.spot c.in-Execute.method env c.args.visits.now.known c.keep_place.new.self.known c.walk_method.new.visits.known c.in_ok-keep_place-in-Execute.ensures c.in_ok-walk_method-in-Execute.ensures.visits)

pub walk_statement-returns-in-If-clause-visits : goal.walk_statement-returns-in-If-clause-visits
walk_statement-returns-in-If-clause-visits t c =
    let w = c.args.self.now in
    let spot = c.args.spot in
    let rs = c.args.variables.now.ranges.items in
    let is = branch_is c.args.stmt.now c.in-If.test c.in-If.yes c.in-If.no c.deref.result.now c.deref-in-If.result.now c.in-If.is c.deref.ensures.value c.deref-in-If.ensures.value done in
    subst (λ b. WithMemory c.walk_if.result (GathersIn (scope_in w.plan.now) (ComesIn w spot b (ranges_in w.plan.now rs)) c.args.visits.now.known c.walk_if.new.visits.known)) (sym is) c.walk_if.ensures.visits

pub walk_statement-returns-in-If-clause-passes : goal.walk_statement-returns-in-If-clause-passes
walk_statement-returns-in-If-clause-passes t c =
    let w = c.args.self.now in
    let spot = c.args.spot in
    let yes = c.deref.result.now in
    let no = c.deref-in-If.result.now in
    let rs = c.args.variables.now.ranges.items in
    let is = branch_is c.args.stmt.now c.in-If.test c.in-If.yes c.in-If.no yes no c.in-If.is c.deref.ensures.value c.deref-in-If.ensures.value done in
    let number : spot.at + 1 + written (body_of yes) + written (body_of no) ≡ spot.at + written (if_of c.in-If.test yes no) = omega arith in
    subst (λ b. Passes (through_body w spot b rs) c.walk_if.new.variables.ranges.items c.walk_if.result) (sym is)
    (passes_to (through_if w spot c.in-If.test yes no rs) (spot.at + written (if_of c.in-If.test yes no)) c.walk_if.new.variables.ranges.items c.walk_if.result number c.walk_if.ensures.passes)

pub walk_if-returns-in_ok-keep_if-in-Ok-clause-passes : goal.walk_if-returns-in_ok-keep_if-in-Ok-clause-passes
walk_if-returns-in_ok-keep_if-in-Ok-clause-passes t c =
    let w = c.args.self.now in
    let p = w.plan.now in
    let spot = c.args.spot in
    let vs = c.args.variables.now.ranges.items in
    let f : Fork = record { root = c.in-Ok.field-0.next - 1; yes = c.args.yes; no = c.args.no } in
    let b = c.in-Ok.field-0.branches in
    let new = c.walk_fork.new.variables.ranges.items in
    if_passes w spot c.args.test.now f vs new (branches_in p vs b) c.walk_fork.result
    (if_forks w spot c.args.test.now f vs b c.in-Ok.ensures.answer.branches (omega (arith, c.in-Ok.ensures.answer.next)))
    (subst (λ rs. Passes (through_fork w spot f (branches_in p rs b)) new c.walk_fork.result) c.in-Ok.ensures.left.ranges c.walk_fork.ensures.passes)

pub walk_if-returns-in_ok-keep_if-in-Ok-clause-visits : goal.walk_if-returns-in_ok-keep_if-in-Ok-clause-visits
walk_if-returns-in_ok-keep_if-in-Ok-clause-visits t c =
    let w = c.args.self.now in
    let p = w.plan.now in
    let yes = body_of c.args.yes.now in
    let other = body_of c.args.no.now in
    let b = c.in-Ok.field-0.branches in
    let mid = c.keep_if.new.self.known in
    let new = c.walk_fork.new.visits.known in
    if_comes_on w c.args.spot c.walk_fork.result (term_of c.args.test.now) yes other c.args.variables.now.ranges.items b c.args.visits.now.known mid new c.in-Ok.ensures.answer.branches c.in_ok-keep_if-in-Ok.ensures
    (subst (λ rs. WithMemory c.walk_fork.result (GathersIn (scope_in p) (ComesInLists w c.args.spot yes other (branches_in p rs b)) mid new)) c.in-Ok.ensures.left.ranges c.walk_fork.ensures.visits)

pub walk_if-returns-in_err-keep_if-in-Ok-clause-visits : goal.walk_if-returns-in_err-keep_if-in-Ok-clause-visits
walk_if-returns-in_err-keep_if-in-Ok-clause-visits t c = with_lost c.from_residual.result _ c.from_residual.ensures.1

pub walk_if-returns-in_err-keep_place-in-Err-clause-visits : goal.walk_if-returns-in_err-keep_place-in-Err-clause-visits
walk_if-returns-in_err-keep_place-in-Err-clause-visits t c = with_lost c.from_residual-in_err-keep_place-in-Err.result _ c.from_residual-in_err-keep_place-in-Err.ensures.1

pub walk_if-returns-in_ok-keep_place-in-Err-clause-passes : goal.walk_if-returns-in_ok-keep_place-in-Err-clause-passes
walk_if-returns-in_ok-keep_place-in-Err-clause-passes t c =
    let w = c.args.self.now in
    let spot = c.args.spot in
    let rs = c.args.variables.now.ranges.items in
    let tests = tested_in w (term_of c.args.test.now) 0 rs in
    c.at_node.ensures (walked_in w spot (if_of c.args.test.now c.args.yes.now c.args.no.now) rs)
    (stops_step tests _ c.in-Err.stop spot c.in-Err.ensures.answer)

pub walk_if-returns-in_ok-keep_place-in-Err-clause-visits : goal.walk_if-returns-in_ok-keep_place-in-Err-clause-visits
walk_if-returns-in_ok-keep_place-in-Err-clause-visits t c =
    let w = c.args.self.now in
    let rs = c.args.variables.now.ranges.items in
    let was = c.args.visits.now.known in
    let last = c.keep_place.new.self.known in
    let yes = body_of c.args.yes.now in
    let other = body_of c.args.no.now in
    let t' = term_of c.args.test.now in
    with_stop c.in-Err.stop c.args.spot c.at_node.result (tested_in w t' 0 rs) (GathersIn (scope_in w.plan.now) (ComesIn w c.args.spot (if_of c.args.test.now c.args.yes.now c.args.no.now) (ranges_in w.plan.now rs)) was last)
    c.in-Err.ensures.answer c.at_node.ensures
    (λ fails. if_stops w c.args.spot t' yes other (ranges_in w.plan.now rs) was last fails c.in_ok-keep_place-in-Err.ensures)

-- the first list, or the second, alone

pub walk_first-returns-in_err-next-clause-visits : goal.walk_first-returns-in_err-next-clause-visits
walk_first-returns-in_err-next-clause-visits t c = with_err c.from_residual.result c.in_err-next.field-0.0 _ c.from_residual.ensures.1 c.in_err-next.ensures.visits

-- ---- what is noted, on faults too

pub walk_branch-returns-in_err-apply-clause-visits : goal.walk_branch-returns-in_err-apply-clause-visits
walk_branch-returns-in_err-apply-clause-visits t c = with_lost c.from_residual.result _ c.from_residual.ensures.1

pub walk_branch-walk_body-requires : goal.walk_branch-walk_body-requires
walk_branch-walk_body-requires t c =
    (omega (arith, c.decreases), (c.requires.walk, (goes_noted c.args.self.now.plan.now c.args.variables.now c.apply.new.self c.requires.held c.in_ok-apply.ensures.noted c.in_ok-apply.ensures.kept).held))

pub walk_branch-returns-in_err-apply-clause-on : goal.walk_branch-returns-in_err-apply-clause-on
walk_branch-returns-in_err-apply-clause-on t c =
    goes_noted c.args.self.now.plan.now c.args.variables.now c.apply.new.self c.requires.held c.in_err-apply.ensures.noted c.in_err-apply.ensures.kept

pub walk_branch-returns-clause-on : goal.walk_branch-returns-clause-on
walk_branch-returns-clause-on t c =
    let p = c.args.self.now.plan.now in
    goes_then p c.args.variables.now c.apply.new.self c.walk_body.new.variables
    (goes_noted p c.args.variables.now c.apply.new.self c.requires.held c.in_ok-apply.ensures.noted c.in_ok-apply.ensures.kept)
    c.walk_body.ensures.on

-- ---- both lists, the second one last

pub walk_second_last-returns-in_err-return_to-clause-on : goal.walk_second_last-returns-in_err-return_to-clause-on
walk_second_last-returns-in_err-return_to-clause-on t c =
    let p = c.args.self.now.plan.now in
    let first = c.walk_branch-before.new.variables in
    let on = c.walk_branch-before.ensures.on in
    goes_then p c.args.variables.now first c.return_to.new.self on (goes_noted p first c.return_to.new.self on.held c.in_err-return_to.ensures.noted c.in_err-return_to.ensures.kept)

pub walk_second_last-returns-in_err-return_to-clause-visits : goal.walk_second_last-returns-in_err-return_to-clause-visits
walk_second_last-returns-in_err-return_to-clause-visits t c = with_lost c.from_residual.result _ c.from_residual.ensures.1

pub walk_second_last-returns-in_err-next-clause-on : goal.walk_second_last-returns-in_err-next-clause-on
walk_second_last-returns-in_err-next-clause-on t c =
    let p = c.args.self.now.plan.now in
    let first = c.walk_branch-before.new.variables in
    let on = c.walk_branch-before.ensures.on in
    let back = goes_noted p first c.return_to.new.self on.held c.in_ok-return_to.ensures.noted c.in_ok-return_to.ensures.kept in
    goes_then p c.args.variables.now first c.walk_branch-behind.new.variables on (goes_then p first c.return_to.new.self c.walk_branch-behind.new.variables back c.walk_branch-behind.ensures.on)

pub walk_second_last-returns-in-Ok-clause-on : goal.walk_second_last-returns-in-Ok-clause-on
walk_second_last-returns-in-Ok-clause-on t c =
    let p = c.args.self.now.plan.now in
    let first = c.walk_branch-before.new.variables in
    let on = c.walk_branch-before.ensures.on in
    let back = goes_noted p first c.return_to.new.self on.held c.in_ok-return_to.ensures.noted c.in_ok-return_to.ensures.kept in
    let through = goes_then p first c.return_to.new.self c.walk_branch-behind.new.variables back c.walk_branch-behind.ensures.on in
    goes_then p c.args.variables.now first c.meet.new.variables on (goes_again p first c.walk_branch-behind.new.variables c.meet.new.variables c.len-mark.result (c.len-mark.ensures ∙ first.notes.ok.0) through c.in-Ok.ensures.back c.in-Ok.ensures.kept on.held)

pub walk_second_last-returns-in-Err-clause-on : goal.walk_second_last-returns-in-Err-clause-on
walk_second_last-returns-in-Err-clause-on t c =
    let p = c.args.self.now.plan.now in
    let first = c.walk_branch-before.new.variables in
    let on = c.walk_branch-before.ensures.on in
    let back = goes_noted p first c.return_to.new.self on.held c.in_ok-return_to.ensures.noted c.in_ok-return_to.ensures.kept in
    let through = goes_then p first c.return_to.new.self c.walk_branch-behind.new.variables back c.walk_branch-behind.ensures.on in
    goes_then p c.args.variables.now first c.meet.new.variables on (goes_again p first c.walk_branch-behind.new.variables c.meet.new.variables c.len-mark.result (c.len-mark.ensures ∙ first.notes.ok.0) through c.in-Err.ensures.back c.in-Err.ensures.kept on.held)

pub walk_second_last-returns-in_err-next-clause-passes : goal.walk_second_last-returns-in_err-next-clause-passes
walk_second_last-returns-in_err-next-clause-passes t c =
    let w = c.args.self.now in
    let p = w.plan.now in
    let spot = c.args.spot in
    let f = c.args.fork.now in
    let was = c.args.variables.now in
    let s = c.walk_branch-before.new.variables in
    let r = c.walk_branch-behind.new.variables in
    let hs = changed was.ranges.items c.args.held.now in
    let fs = changed was.ranges.items c.args.failed.now in
    let at = spot.at + 1 + c.written.result in
    let number : at ≡ spot.at + 1 + written (body_of f.yes.now) = omega (arith, c.written.ensures) in
    let back = c.in_ok-return_to.ensures.ranges ∙ since was s c.len-outset.result (c.len-outset.ensures ∙ was.notes.ok.0) c.walk_branch-before.ensures.on.noted in
    let passes = c.walk_branch-before.ensures.passes in
    let passes_last = subst (λ rs. Passes (through_body w (record spot { at = at }) (body_of f.no.now) (changed rs c.args.failed.now)) r.ranges.items c.walk_branch-behind.result) back c.walk_branch-behind.ensures.passes in
    let stop = c.in_err-next.field-0.0 in
    passes_not (through_both w spot f hs fs) r.ranges.items c.from_residual-in_err-next.result stop c.from_residual-in_err-next.ensures.1
    (both_fault w spot f at hs fs s.ranges.items r.ranges.items c.walk_branch-before.result c.walk_branch-behind.result stop number c.in_err-next.ensures passes passes_last)

pub walk_second_last-returns-in-Ok-clause-passes : goal.walk_second_last-returns-in-Ok-clause-passes
walk_second_last-returns-in-Ok-clause-passes t c =
    let w = c.args.self.now in
    let p = w.plan.now in
    let spot = c.args.spot in
    let f = c.args.fork.now in
    let was = c.args.variables.now in
    let s = c.walk_branch-before.new.variables in
    let r = c.walk_branch-behind.new.variables in
    let hs = changed was.ranges.items c.args.held.now in
    let fs = changed was.ranges.items c.args.failed.now in
    let at = spot.at + 1 + c.written.result in
    let number : at ≡ spot.at + 1 + written (body_of f.yes.now) = omega (arith, c.written.ensures) in
    let back = c.in_ok-return_to.ensures.ranges ∙ since was s c.len-outset.result (c.len-outset.ensures ∙ was.notes.ok.0) c.walk_branch-before.ensures.on.noted in
    let passes = c.walk_branch-before.ensures.passes in
    let passes_last = subst (λ rs. Passes (through_body w (record spot { at = at }) (body_of f.no.now) (changed rs c.args.failed.now)) r.ranges.items c.walk_branch-behind.result) back c.walk_branch-behind.ensures.passes in
    let oks = both_ok c.walk_branch-before.result c.walk_branch-behind.result c.in_ok-next.next c.in_ok-next.ensures in
    let first = subst (Passes (through_body w (first_spot spot) (body_of f.yes.now) hs) s.ranges.items) oks.0.1 passes in
    let last = subst (Passes (through_body w (record spot { at = at }) (body_of f.no.now) fs) r.ranges.items) oks.1 passes_last in
    let noted = noted_then s c.return_to.new.self r c.in_ok-return_to.ensures.noted c.walk_branch-behind.ensures.on.noted in
    let other = since s r c.len-mark.result (c.len-mark.ensures ∙ s.notes.ok.0) noted in
    let new = c.meet.new.variables.ranges.items in
    let met = subst (λ ss. joined_lists r.ranges.items ss ≡ Ok new) other c.in-Ok.ensures.meets in (
      both_join_back w spot f at hs fs s.ranges.items r.ranges.items c.walk_branch-before.ensures.on.held.sized c.walk_branch-behind.ensures.on.held.sized number first.0 last.0 new met,
      omega (arith, number, last.1),
    )

pub walk_second_last-returns-in-Err-clause-passes : goal.walk_second_last-returns-in-Err-clause-passes
walk_second_last-returns-in-Err-clause-passes t c =
    let w = c.args.self.now in
    let p = w.plan.now in
    let spot = c.args.spot in
    let f = c.args.fork.now in
    let was = c.args.variables.now in
    let s = c.walk_branch-before.new.variables in
    let r = c.walk_branch-behind.new.variables in
    let hs = changed was.ranges.items c.args.held.now in
    let fs = changed was.ranges.items c.args.failed.now in
    let at = spot.at + 1 + c.written.result in
    let number : at ≡ spot.at + 1 + written (body_of f.yes.now) = omega (arith, c.written.ensures) in
    let back = c.in_ok-return_to.ensures.ranges ∙ since was s c.len-outset.result (c.len-outset.ensures ∙ was.notes.ok.0) c.walk_branch-before.ensures.on.noted in
    let passes = c.walk_branch-before.ensures.passes in
    let passes_last = subst (λ rs. Passes (through_body w (record spot { at = at }) (body_of f.no.now) (changed rs c.args.failed.now)) r.ranges.items c.walk_branch-behind.result) back c.walk_branch-behind.ensures.passes in
    let oks = both_ok c.walk_branch-before.result c.walk_branch-behind.result c.in_ok-next.next c.in_ok-next.ensures in
    let first = subst (Passes (through_body w (first_spot spot) (body_of f.yes.now) hs) s.ranges.items) oks.0.1 passes in
    let last = subst (Passes (through_body w (record spot { at = at }) (body_of f.no.now) fs) r.ranges.items) oks.1 passes_last in
    let noted = noted_then s c.return_to.new.self r c.in_ok-return_to.ensures.noted c.walk_branch-behind.ensures.on.noted in
    let other = since s r c.len-mark.result (c.len-mark.ensures ∙ s.notes.ok.0) noted in
    let new = c.meet.new.variables.ranges.items in
    let met = subst (λ ss. MeetsAnswer f.root r.ranges.items ss new (Err c.in-Err.stop)) other c.in-Err.ensures.meets in
    c.at_node.ensures (met_in w spot f hs fs)
    (both_stop_back w spot f at hs fs s.ranges.items r.ranges.items c.walk_branch-before.ensures.on.held.sized c.walk_branch-behind.ensures.on.held.sized number first.0 last.0 c.in-Err.stop new met)

pub walk_second_last-returns-in_err-next-clause-visits : goal.walk_second_last-returns-in_err-next-clause-visits
walk_second_last-returns-in_err-next-clause-visits t c =
    let w = c.args.self.now in
    let p = w.plan.now in
    let spot = c.args.spot in
    let f = c.args.fork.now in
    let was = c.args.variables.now in
    let s = c.walk_branch-before.new.variables in
    let hs = changed was.ranges.items c.args.held.now in
    let fs = changed was.ranges.items c.args.failed.now in
    let at = spot.at + 1 + c.written.result in
    let number : at ≡ spot.at + 1 + written (body_of f.yes.now) = omega (arith, c.written.ensures) in
    let back = c.in_ok-return_to.ensures.ranges ∙ since was s c.len-outset.result (c.len-outset.ensures ∙ was.notes.ok.0) c.walk_branch-before.ensures.on.noted in
    let known = c.args.visits.now.known in
    let places = c.walk_branch-before.new.visits.known in
    let last = c.walk_branch-behind.new.visits.known in
    let first = c.walk_branch-before.ensures.visits in
    let second = subst (λ rs. WithMemory c.walk_branch-behind.result (GathersIn (scope_in p) (ComesIn w (record spot { at = at }) (body_of f.no.now) (ranges_in p (changed rs c.args.failed.now))) places last)) back c.walk_branch-behind.ensures.visits in
    let stop = c.in_err-next.field-0.0 in
    with_err c.from_residual-in_err-next.result stop (GathersIn (scope_in p) (ComesInBoth w spot f hs fs) known last) c.from_residual-in_err-next.ensures.1
    (both_come w spot f at hs fs c.walk_branch-before.result c.walk_branch-behind.result (Err stop) known places last number c.in_err-next.ensures first second)

pub walk_second_last-returns-in-Ok-clause-visits : goal.walk_second_last-returns-in-Ok-clause-visits
walk_second_last-returns-in-Ok-clause-visits t c =
    let w = c.args.self.now in
    let p = w.plan.now in
    let spot = c.args.spot in
    let f = c.args.fork.now in
    let was = c.args.variables.now in
    let s = c.walk_branch-before.new.variables in
    let hs = changed was.ranges.items c.args.held.now in
    let fs = changed was.ranges.items c.args.failed.now in
    let at = spot.at + 1 + c.written.result in
    let number : at ≡ spot.at + 1 + written (body_of f.yes.now) = omega (arith, c.written.ensures) in
    let back = c.in_ok-return_to.ensures.ranges ∙ since was s c.len-outset.result (c.len-outset.ensures ∙ was.notes.ok.0) c.walk_branch-before.ensures.on.noted in
    let known = c.args.visits.now.known in
    let places = c.walk_branch-before.new.visits.known in
    let last = c.walk_branch-behind.new.visits.known in
    let first = c.walk_branch-before.ensures.visits in
    let second = subst (λ rs. WithMemory c.walk_branch-behind.result (GathersIn (scope_in p) (ComesIn w (record spot { at = at }) (body_of f.no.now) (ranges_in p (changed rs c.args.failed.now))) places last)) back c.walk_branch-behind.ensures.visits in
    both_come w spot f at hs fs c.walk_branch-before.result c.walk_branch-behind.result (Ok c.in_ok-next.next) known places last number c.in_ok-next.ensures first second

pub walk_second_last-returns-in-Err-clause-visits : goal.walk_second_last-returns-in-Err-clause-visits
walk_second_last-returns-in-Err-clause-visits t c =
    let w = c.args.self.now in
    let p = w.plan.now in
    let spot = c.args.spot in
    let f = c.args.fork.now in
    let was = c.args.variables.now in
    let s = c.walk_branch-before.new.variables in
    let hs = changed was.ranges.items c.args.held.now in
    let fs = changed was.ranges.items c.args.failed.now in
    let at = spot.at + 1 + c.written.result in
    let number : at ≡ spot.at + 1 + written (body_of f.yes.now) = omega (arith, c.written.ensures) in
    let back = c.in_ok-return_to.ensures.ranges ∙ since was s c.len-outset.result (c.len-outset.ensures ∙ was.notes.ok.0) c.walk_branch-before.ensures.on.noted in
    let known = c.args.visits.now.known in
    let places = c.walk_branch-before.new.visits.known in
    let last = c.walk_branch-behind.new.visits.known in
    let first = c.walk_branch-before.ensures.visits in
    let second = subst (λ rs. WithMemory c.walk_branch-behind.result (GathersIn (scope_in p) (ComesIn w (record spot { at = at }) (body_of f.no.now) (ranges_in p (changed rs c.args.failed.now))) places last)) back c.walk_branch-behind.ensures.visits in
    stops_any c.at_node.result (GathersIn (scope_in p) (ComesInBoth w spot f hs fs) known last)
    (both_come w spot f at hs fs c.walk_branch-before.result c.walk_branch-behind.result (Ok c.in_ok-next.next) known places last number c.in_ok-next.ensures first second)

-- ---- both lists, the first one last

pub walk_first_last-returns-in_err-return_to-clause-on : goal.walk_first_last-returns-in_err-return_to-clause-on
walk_first_last-returns-in_err-return_to-clause-on t c =
    let p = c.args.self.now.plan.now in
    let first = c.walk_branch-behind.new.variables in
    let on = c.walk_branch-behind.ensures.on in
    goes_then p c.args.variables.now first c.return_to.new.self on (goes_noted p first c.return_to.new.self on.held c.in_err-return_to.ensures.noted c.in_err-return_to.ensures.kept)

pub walk_first_last-returns-in_err-return_to-clause-visits : goal.walk_first_last-returns-in_err-return_to-clause-visits
walk_first_last-returns-in_err-return_to-clause-visits t c = with_lost c.from_residual.result _ c.from_residual.ensures.1

pub walk_first_last-returns-in_err-next-clause-on : goal.walk_first_last-returns-in_err-next-clause-on
walk_first_last-returns-in_err-next-clause-on t c =
    let p = c.args.self.now.plan.now in
    let first = c.walk_branch-behind.new.variables in
    let on = c.walk_branch-behind.ensures.on in
    let back = goes_noted p first c.return_to.new.self on.held c.in_ok-return_to.ensures.noted c.in_ok-return_to.ensures.kept in
    goes_then p c.args.variables.now first c.walk_branch-before.new.variables on (goes_then p first c.return_to.new.self c.walk_branch-before.new.variables back c.walk_branch-before.ensures.on)

pub walk_first_last-returns-in-Ok-clause-on : goal.walk_first_last-returns-in-Ok-clause-on
walk_first_last-returns-in-Ok-clause-on t c =
    let p = c.args.self.now.plan.now in
    let first = c.walk_branch-behind.new.variables in
    let on = c.walk_branch-behind.ensures.on in
    let back = goes_noted p first c.return_to.new.self on.held c.in_ok-return_to.ensures.noted c.in_ok-return_to.ensures.kept in
    let through = goes_then p first c.return_to.new.self c.walk_branch-before.new.variables back c.walk_branch-before.ensures.on in
    goes_then p c.args.variables.now first c.meet.new.variables on (goes_again p first c.walk_branch-before.new.variables c.meet.new.variables c.len-mark.result (c.len-mark.ensures ∙ first.notes.ok.0) through c.in-Ok.ensures.back c.in-Ok.ensures.kept on.held)

pub walk_first_last-returns-in-Err-clause-on : goal.walk_first_last-returns-in-Err-clause-on
walk_first_last-returns-in-Err-clause-on t c =
    let p = c.args.self.now.plan.now in
    let first = c.walk_branch-behind.new.variables in
    let on = c.walk_branch-behind.ensures.on in
    let back = goes_noted p first c.return_to.new.self on.held c.in_ok-return_to.ensures.noted c.in_ok-return_to.ensures.kept in
    let through = goes_then p first c.return_to.new.self c.walk_branch-before.new.variables back c.walk_branch-before.ensures.on in
    goes_then p c.args.variables.now first c.meet.new.variables on (goes_again p first c.walk_branch-before.new.variables c.meet.new.variables c.len-mark.result (c.len-mark.ensures ∙ first.notes.ok.0) through c.in-Err.ensures.back c.in-Err.ensures.kept on.held)

pub walk_first_last-returns-in_err-next-clause-passes : goal.walk_first_last-returns-in_err-next-clause-passes
walk_first_last-returns-in_err-next-clause-passes t c =
    let w = c.args.self.now in
    let p = w.plan.now in
    let spot = c.args.spot in
    let f = c.args.fork.now in
    let was = c.args.variables.now in
    let s = c.walk_branch-behind.new.variables in
    let r = c.walk_branch-before.new.variables in
    let hs = changed was.ranges.items c.args.held.now in
    let fs = changed was.ranges.items c.args.failed.now in
    let at = spot.at + 1 + c.written.result in
    let number : at ≡ spot.at + 1 + written (body_of f.yes.now) = omega (arith, c.written.ensures) in
    let back = c.in_ok-return_to.ensures.ranges ∙ since was s c.len-outset.result (c.len-outset.ensures ∙ was.notes.ok.0) c.walk_branch-behind.ensures.on.noted in
    let passes = subst (λ rs. Passes (through_body w (first_spot spot) (body_of f.yes.now) (changed rs c.args.held.now)) r.ranges.items c.walk_branch-before.result) back c.walk_branch-before.ensures.passes in
    let passes_last = c.walk_branch-behind.ensures.passes in
    let stop = c.in_err-next.field-0.0 in
    passes_not (through_both w spot f hs fs) r.ranges.items c.from_residual-in_err-next.result stop c.from_residual-in_err-next.ensures.1
    (both_fault w spot f at hs fs r.ranges.items s.ranges.items c.walk_branch-before.result c.walk_branch-behind.result stop number c.in_err-next.ensures passes passes_last)

pub walk_first_last-returns-in-Ok-clause-passes : goal.walk_first_last-returns-in-Ok-clause-passes
walk_first_last-returns-in-Ok-clause-passes t c =
    let w = c.args.self.now in
    let p = w.plan.now in
    let spot = c.args.spot in
    let f = c.args.fork.now in
    let was = c.args.variables.now in
    let s = c.walk_branch-behind.new.variables in
    let r = c.walk_branch-before.new.variables in
    let hs = changed was.ranges.items c.args.held.now in
    let fs = changed was.ranges.items c.args.failed.now in
    let at = spot.at + 1 + c.written.result in
    let number : at ≡ spot.at + 1 + written (body_of f.yes.now) = omega (arith, c.written.ensures) in
    let back = c.in_ok-return_to.ensures.ranges ∙ since was s c.len-outset.result (c.len-outset.ensures ∙ was.notes.ok.0) c.walk_branch-behind.ensures.on.noted in
    let passes = subst (λ rs. Passes (through_body w (first_spot spot) (body_of f.yes.now) (changed rs c.args.held.now)) r.ranges.items c.walk_branch-before.result) back c.walk_branch-before.ensures.passes in
    let passes_last = c.walk_branch-behind.ensures.passes in
    let oks = both_ok c.walk_branch-before.result c.walk_branch-behind.result c.in_ok-next.next c.in_ok-next.ensures in
    let first = subst (Passes (through_body w (first_spot spot) (body_of f.yes.now) hs) r.ranges.items) oks.0.1 passes in
    let last = subst (Passes (through_body w (record spot { at = at }) (body_of f.no.now) fs) s.ranges.items) oks.1 passes_last in
    let noted = noted_then s c.return_to.new.self r c.in_ok-return_to.ensures.noted c.walk_branch-before.ensures.on.noted in
    let other = since s r c.len-mark.result (c.len-mark.ensures ∙ s.notes.ok.0) noted in
    let new = c.meet.new.variables.ranges.items in
    let met = subst (λ ss. joined_lists r.ranges.items ss ≡ Ok new) other c.in-Ok.ensures.meets in (
      both_join w spot f at hs fs r.ranges.items s.ranges.items c.walk_branch-before.ensures.on.held.sized c.walk_branch-behind.ensures.on.held.sized number first.0 last.0 new met,
      omega (arith, number, last.1),
    )

pub walk_first_last-returns-in-Err-clause-passes : goal.walk_first_last-returns-in-Err-clause-passes
walk_first_last-returns-in-Err-clause-passes t c =
    let w = c.args.self.now in
    let p = w.plan.now in
    let spot = c.args.spot in
    let f = c.args.fork.now in
    let was = c.args.variables.now in
    let s = c.walk_branch-behind.new.variables in
    let r = c.walk_branch-before.new.variables in
    let hs = changed was.ranges.items c.args.held.now in
    let fs = changed was.ranges.items c.args.failed.now in
    let at = spot.at + 1 + c.written.result in
    let number : at ≡ spot.at + 1 + written (body_of f.yes.now) = omega (arith, c.written.ensures) in
    let back = c.in_ok-return_to.ensures.ranges ∙ since was s c.len-outset.result (c.len-outset.ensures ∙ was.notes.ok.0) c.walk_branch-behind.ensures.on.noted in
    let passes = subst (λ rs. Passes (through_body w (first_spot spot) (body_of f.yes.now) (changed rs c.args.held.now)) r.ranges.items c.walk_branch-before.result) back c.walk_branch-before.ensures.passes in
    let passes_last = c.walk_branch-behind.ensures.passes in
    let oks = both_ok c.walk_branch-before.result c.walk_branch-behind.result c.in_ok-next.next c.in_ok-next.ensures in
    let first = subst (Passes (through_body w (first_spot spot) (body_of f.yes.now) hs) r.ranges.items) oks.0.1 passes in
    let last = subst (Passes (through_body w (record spot { at = at }) (body_of f.no.now) fs) s.ranges.items) oks.1 passes_last in
    let noted = noted_then s c.return_to.new.self r c.in_ok-return_to.ensures.noted c.walk_branch-before.ensures.on.noted in
    let other = since s r c.len-mark.result (c.len-mark.ensures ∙ s.notes.ok.0) noted in
    let new = c.meet.new.variables.ranges.items in
    let met = subst (λ ss. MeetsAnswer f.root r.ranges.items ss new (Err c.in-Err.stop)) other c.in-Err.ensures.meets in
    c.at_node.ensures (met_in w spot f hs fs)
    (both_stop w spot f at hs fs r.ranges.items s.ranges.items c.walk_branch-before.ensures.on.held.sized c.walk_branch-behind.ensures.on.held.sized number first.0 last.0 c.in-Err.stop new met)

pub walk_first_last-returns-in_err-next-clause-visits : goal.walk_first_last-returns-in_err-next-clause-visits
walk_first_last-returns-in_err-next-clause-visits t c =
    let w = c.args.self.now in
    let p = w.plan.now in
    let spot = c.args.spot in
    let f = c.args.fork.now in
    let was = c.args.variables.now in
    let s = c.walk_branch-behind.new.variables in
    let hs = changed was.ranges.items c.args.held.now in
    let fs = changed was.ranges.items c.args.failed.now in
    let at = spot.at + 1 + c.written.result in
    let number : at ≡ spot.at + 1 + written (body_of f.yes.now) = omega (arith, c.written.ensures) in
    let back = c.in_ok-return_to.ensures.ranges ∙ since was s c.len-outset.result (c.len-outset.ensures ∙ was.notes.ok.0) c.walk_branch-behind.ensures.on.noted in
    let known = c.args.visits.now.known in
    let places = c.walk_branch-behind.new.visits.known in
    let last = c.walk_branch-before.new.visits.known in
    let first = subst (λ rs. WithMemory c.walk_branch-before.result (GathersIn (scope_in p) (ComesIn w (first_spot spot) (body_of f.yes.now) (ranges_in p (changed rs c.args.held.now))) places last)) back c.walk_branch-before.ensures.visits in
    let second = c.walk_branch-behind.ensures.visits in
    let stop = c.in_err-next.field-0.0 in
    with_err c.from_residual-in_err-next.result stop (GathersIn (scope_in p) (ComesInBoth w spot f hs fs) known last) c.from_residual-in_err-next.ensures.1
    (both_come_back w spot f at hs fs c.walk_branch-before.result c.walk_branch-behind.result (Err stop) known places last number c.in_err-next.ensures first second)

pub walk_first_last-returns-in-Ok-clause-visits : goal.walk_first_last-returns-in-Ok-clause-visits
walk_first_last-returns-in-Ok-clause-visits t c =
    let w = c.args.self.now in
    let p = w.plan.now in
    let spot = c.args.spot in
    let f = c.args.fork.now in
    let was = c.args.variables.now in
    let s = c.walk_branch-behind.new.variables in
    let hs = changed was.ranges.items c.args.held.now in
    let fs = changed was.ranges.items c.args.failed.now in
    let at = spot.at + 1 + c.written.result in
    let number : at ≡ spot.at + 1 + written (body_of f.yes.now) = omega (arith, c.written.ensures) in
    let back = c.in_ok-return_to.ensures.ranges ∙ since was s c.len-outset.result (c.len-outset.ensures ∙ was.notes.ok.0) c.walk_branch-behind.ensures.on.noted in
    let known = c.args.visits.now.known in
    let places = c.walk_branch-behind.new.visits.known in
    let last = c.walk_branch-before.new.visits.known in
    let first = subst (λ rs. WithMemory c.walk_branch-before.result (GathersIn (scope_in p) (ComesIn w (first_spot spot) (body_of f.yes.now) (ranges_in p (changed rs c.args.held.now))) places last)) back c.walk_branch-before.ensures.visits in
    let second = c.walk_branch-behind.ensures.visits in
    both_come_back w spot f at hs fs c.walk_branch-before.result c.walk_branch-behind.result (Ok c.in_ok-next.next) known places last number c.in_ok-next.ensures first second

pub walk_first_last-returns-in-Err-clause-visits : goal.walk_first_last-returns-in-Err-clause-visits
walk_first_last-returns-in-Err-clause-visits t c =
    let w = c.args.self.now in
    let p = w.plan.now in
    let spot = c.args.spot in
    let f = c.args.fork.now in
    let was = c.args.variables.now in
    let s = c.walk_branch-behind.new.variables in
    let hs = changed was.ranges.items c.args.held.now in
    let fs = changed was.ranges.items c.args.failed.now in
    let at = spot.at + 1 + c.written.result in
    let number : at ≡ spot.at + 1 + written (body_of f.yes.now) = omega (arith, c.written.ensures) in
    let back = c.in_ok-return_to.ensures.ranges ∙ since was s c.len-outset.result (c.len-outset.ensures ∙ was.notes.ok.0) c.walk_branch-behind.ensures.on.noted in
    let known = c.args.visits.now.known in
    let places = c.walk_branch-behind.new.visits.known in
    let last = c.walk_branch-before.new.visits.known in
    let first = subst (λ rs. WithMemory c.walk_branch-before.result (GathersIn (scope_in p) (ComesIn w (first_spot spot) (body_of f.yes.now) (ranges_in p (changed rs c.args.held.now))) places last)) back c.walk_branch-before.ensures.visits in
    let second = c.walk_branch-behind.ensures.visits in
    stops_any c.at_node.result (GathersIn (scope_in p) (ComesInBoth w spot f hs fs) known last)
    (both_come_back w spot f at hs fs c.walk_branch-before.result c.walk_branch-behind.result (Ok c.in_ok-next.next) known places last number c.in_ok-next.ensures first second)
