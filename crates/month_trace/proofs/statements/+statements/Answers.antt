use Rattle.std.proofs.Common.{◌+◌, drop, sym, ap, ◌∙◌, subst, arith}
use Rattle.std.specs.Prelude.{IsSome}
use Rattle.pap_tree.specs.Flowchart.{body_of, done}
use Rattle.pap_tree.specs.Statements.{written}
use Rattle.pap_tree.proofs.Laws.{stmt_at, branch_is, written_at}
use Rattle.pap_types.specs.Routines.{body_named}
use Rattle.pap_types.specs.private.ScopeViews.{scope_in}
use Rattle.run_values.specs.private.ValueViews.{values_in}
use Rattle.pap_tree.specs.private.TreeViews.{methods_in}
use Rattle.month_trace.specs.private.WalkViews.{CanRun, GoesTo, progress, after_in, traced_in, followed}
use Rattle.month_trace.proofs.OperationLemmas.{none_there}
use Rattle.month_trace.proofs.RunLemmas.{can_here, can_rest, ends_on, steps_on, chain_some, method_there, after_body, traced_body, safe_body}
use Rattle.month_trace.proofs.statements.+statements.Goals as goal

pub run_body-run_statement-requires : goal.run_body-run_statement-requires
run_body-run_statement-requires t c =
    let p = c.args.plan.now in
    let body = c.args.body.now in
    let i = c.loop-stmt.stmt-index in
    let s = c.stmt-item.result in
    let next = c.loop-stmt.next in
    let is = stmt_at body i s c.stmt-item.is c.loop-stmt-test.true in
    let count = written_at body i s c.stmt-item.is c.loop-stmt-test.true in
    let run =
    subst (λ b. CanRun p (record c.args.spot { at = next }) b c.loop-stmt.values) is c.loop-stmt.invariant.run in (
      omega (arith, count, c.loop-stmt.invariant.number, c.loop-stmt.invariant.above, c.decreases),
      can_here p
          (record c.args.spot { at = next }) s (body_of (drop (i + 1) body)) c.loop-stmt.values run,
    )

pub run_body-loop-stmt-preserved : goal.run_body-loop-stmt-preserved
run_body-loop-stmt-preserved t c =
    let p = c.args.plan.now in
    let body = c.args.body.now in
    let i = c.loop-stmt.stmt-index in
    let s = c.stmt-item.result in
    let next = c.loop-stmt.next in
    let spot = record c.args.spot { at = next } in
    let rest = body_of (drop (i + 1) body) in
    let is = stmt_at body i s c.stmt-item.is c.loop-stmt-test.true in
    let count = written_at body i s c.stmt-item.is c.loop-stmt-test.true in
    let run = subst (λ b. CanRun p spot b c.loop-stmt.values) is c.loop-stmt.invariant.run in
    let old = progress c.loop-stmt.values c.loop-stmt.steps.items in
    let new = progress c.run_statement.new.values c.run_statement.new.steps.items in
    let step = c.in_ok-next.ensures in
    record {
      number = omega (arith, count, c.loop-stmt.invariant.number, step.1);
      above = omega (arith, c.loop-stmt.invariant.above, step.1);
      run =
          can_rest p spot s rest c.loop-stmt.values c.run_statement.new.values c.in_ok-next.next run
          (c.run_statement.auto.values ∙ c.loop-stmt.invariant.run.values.sized) step.0.values step.1;
      ends =
          ends_on p spot s rest old new step.0
          ∙ ap (λ b. after_in p c.args.spot.chain b (values_in p c.loop-stmt.values)) (sym is)
          ∙ c.loop-stmt.invariant.ends;
      steps =
          steps_on p spot s rest old new step.0 c.in_ok-next.next step.1
          ∙ ap (λ b. followed old.steps (traced_in p spot b (values_in p c.loop-stmt.values))) (sym is)
          ∙ c.loop-stmt.invariant.steps;
    }

pub run_method-unreachable-requires : goal.run_method-unreachable-requires
run_method-unreachable-requires t c =
    let p = c.args.plan.now in
    none_there (body_named (methods_in p) c.args.name.now) (sym c.in_default.ensures.body)
    (method_there (scope_in p) (methods_in p) c.args.name.now (values_in p c.args.values.now) c.args.chain
    c.requires.defined)

pub run_method-overflow_sub-spot : goal.run_method-overflow_sub-spot
run_method-overflow_sub-spot t c =
    let p = c.args.plan.now in
    let some =
    chain_some (scope_in p) (methods_in p) c.args.name.now (values_in p c.args.values.now) c.args.chain
    c.requires.defined in
    omega (arith, some)

pub run_method-run_body-requires : goal.run_method-run_body-requires
run_method-run_body-requires t c =
    let p = c.args.plan.now in
    let m = c.args.name.now in
    let env = values_in p c.args.values.now in
    let b = body_of c.in-Some.body.now in
    let is = sym c.in-Some.ensures.body in
    let some = chain_some (scope_in p) (methods_in p) m env c.args.chain c.requires.defined in
    let count = c.in-Some.ensures.run.count in (
      omega (arith, c.decreases, count, some),
      record {
        values = c.requires.values;
        typed = c.in-Some.ensures.run.typed;
        safe = safe_body (scope_in p) (methods_in p) m env b is c.args.chain some c.requires.safe;
        defined =
            subst (λ o. IsSome o) (after_body (scope_in p) (methods_in p) m env b is c.args.chain some)
            c.requires.defined;
        room = omega (arith, count);
      },
    )

pub run_method-returns : goal.run_method-returns
run_method-returns t c =
    let p = c.args.plan.now in
    let m = c.args.name.now in
    let env = values_in p c.args.values.now in
    let b = body_of c.in-Some.body.now in
    let is = sym c.in-Some.ensures.body in
    let some = chain_some (scope_in p) (methods_in p) m env c.args.chain c.requires.defined in
    let run = c.in_ok-run_body.ensures.0 in
    record {
      values = after_body (scope_in p) (methods_in p) m env b is c.args.chain some ∙ run.values;
      steps =
          ap (followed c.args.steps.now.items) (traced_body (scope_in p) (methods_in p) m env b is c.args.chain some)
          ∙ run.steps;
    }

pub run_statement-run_if-requires : goal.run_statement-run_if-requires
run_statement-run_if-requires t c =
    let is =
    branch_is c.args.stmt.now c.in-If.test c.in-If.yes c.in-If.no c.deref.result.now c.deref-in-If.result.now
    c.in-If.is c.deref.ensures.value c.deref-in-If.ensures.value done in
    let count = ap written is in (
      omega (arith, count, c.decreases),
      subst (λ b. CanRun c.args.plan.now c.args.spot b c.args.values.now) is
          c.requires,
    )

pub run_statement-returns-in-If : goal.run_statement-returns-in-If
run_statement-returns-in-If t c =
    let is =
    branch_is c.args.stmt.now c.in-If.test c.in-If.yes c.in-If.no c.deref.result.now c.deref-in-If.result.now
    c.in-If.is c.deref.ensures.value c.deref-in-If.ensures.value done in
    subst
    (λ b. GoesTo c.args.plan.now c.args.spot b (progress c.args.values.now c.args.steps.now.items)
    (progress c.run_if.new.values c.run_if.new.steps.items) c.run_if.result)
    (sym is) c.run_if.ensures
