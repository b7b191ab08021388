use Rattle.std.proofs.Common.{◌≡◌, ◌+◌, drop, sym, ap, ◌∙◌, subst, arith}
use Rattle.std.proofs.lemmas.List.{drop_all}
use Rattle.std.proofs.lemmas.Result.{err_from_is_err_and}
use Rattle.pap_tree.specs.Flowchart.{body_of, done}
use Rattle.pap_tree.specs.Statements.{written}
use Rattle.pap_tree.proofs.Laws.{stmt_at, branch_is, written_at}
use Rattle.pap_types.specs.private.ScopeViews.{scope_in}
use Rattle.pap_tree.specs.private.TreeViews.{methods_in}
use Rattle.checked_run.specs.RunFailures.{CallsFail}
use Rattle.run_values.specs.private.ValueViews.{values_in}
use Rattle.checked_run.specs.private.WalkViews.{calls_by, FailsFrom, CanRun, BodyAnswer, CallAnswer}
use Rattle.checked_run.proofs.RunLemmas.{ComesOf, can_here, can_rest, comes_on, fails_on, executes, call_fails, chain_fails, nothing_runs}
use Rattle.checked_run.proofs.statements.+statements.Goals as goal

pub run_body-run_statement-requires : goal.run_body-run_statement-requires
run_body-run_statement-requires t c =
    let p = c.args.plan.now in
    let body = c.args.body.now in
    let i = c.loop-stmt.stmt-index in
    let s = c.stmt-item.result in
    let next = c.loop-stmt.next in
    let is = stmt_at body i s c.stmt-item.is c.loop-stmt-test.true in
    let count = written_at body i s c.stmt-item.is c.loop-stmt-test.true in
    let run =
    subst (λ b. CanRun p (record c.args.spot { at = next }) b c.loop-stmt.values) is c.loop-stmt.invariant.run in (
      omega (arith, count, c.loop-stmt.invariant.number, c.loop-stmt.invariant.above, c.decreases),
      can_here p (record c.args.spot { at = next }) s (body_of (drop (i + 1) body)) c.loop-stmt.values run,
    )

pub run_body-loop-stmt-preserved : goal.run_body-loop-stmt-preserved
run_body-loop-stmt-preserved t c =
    let p = c.args.plan.now in
    let body = c.args.body.now in
    let i = c.loop-stmt.stmt-index in
    let s = c.stmt-item.result in
    let next = c.loop-stmt.next in
    let spot = record c.args.spot { at = next } in
    let rest = body_of (drop (i + 1) body) in
    let is = stmt_at body i s c.stmt-item.is c.loop-stmt-test.true in
    let count = written_at body i s c.stmt-item.is c.loop-stmt-test.true in
    let run = subst (λ b. CanRun p spot b c.loop-stmt.values) is c.loop-stmt.invariant.run in
    let comes =
    subst (λ b. ComesOf p c.args.spot (body_of body) c.args.values.now next b c.loop-stmt.values) is
    c.loop-stmt.invariant.comes in
    let step = c.in_ok-next.ensures in
    record {
      number = omega (arith, count, c.loop-stmt.invariant.number, step.1);
      above = omega (arith, c.loop-stmt.invariant.above, step.1);
      run =
          can_rest p spot s rest c.loop-stmt.values c.run_statement.new.values c.in_ok-next.next run
          (c.run_statement.auto.values ∙ c.loop-stmt.invariant.run.values.sized) step.1;
      comes =
          comes_on p spot s rest c.args.spot.at (body_of body) c.args.values.now c.loop-stmt.values
          c.run_statement.new.values c.in_ok-next.next comes step.0 step.1;
    }

pub run_body-returns-in_err-next : goal.run_body-returns-in_err-next
run_body-returns-in_err-next t c =
    let p = c.args.plan.now in
    let body = c.args.body.now in
    let i = c.loop-stmt.stmt-index in
    let s = c.stmt-item.result in
    let next = c.loop-stmt.next in
    let is = stmt_at body i s c.stmt-item.is c.loop-stmt-test.true in
    let comes =
    subst (λ b. ComesOf p c.args.spot (body_of body) c.args.values.now next b c.loop-stmt.values) is
    c.loop-stmt.invariant.comes in
    let returned = err_from_is_err_and c.from_residual.result c.from_residual.ensures.1 in
    subst (BodyAnswer p c.args.spot (body_of body) c.args.values.now c.run_statement.new.values) (sym returned.1)
    (subst (FailsFrom p c.args.spot (body_of body) c.args.values.now) (sym returned.2)
    (fails_on p (record c.args.spot { at = next }) s (body_of (drop (i + 1) body)) c.args.spot.at (body_of body)
    c.args.values.now c.loop-stmt.values _ comes c.in_err-next.ensures))

pub run_body-returns : goal.run_body-returns
run_body-returns t c =
    let p = c.args.plan.now in
    let body = c.args.body.now in
    let i = c.loop-stmt.stmt-index in
    let spot = c.args.spot in
    let nothing = drop_all i body c.loop-stmt-test.false in
    let comes =
    subst (λ ss. ComesOf p spot (body_of body) c.args.values.now c.loop-stmt.next (body_of ss) c.loop-stmt.values)
    nothing c.loop-stmt.invariant.comes in
    let number =
    subst (λ ss. c.loop-stmt.next + written (body_of ss) ≡ spot.at + written (body_of body)) nothing
    c.loop-stmt.invariant.number in (
      comes.runs (values_in p c.loop-stmt.values)
          (nothing_runs (scope_in p) (calls_by p spot.chain) (values_in p c.loop-stmt.values)),
      omega (arith, number),
    )

pub run_method-returns-then-chain-eq0 : goal.run_method-returns-then-chain-eq0
run_method-returns-then-chain-eq0 t c =
    let p = c.args.plan.now in
    chain_fails (scope_in p) (methods_in p) c.args.name.now (values_in p c.args.values.now) c.args.chain
    c.if-chain-eq0.true

pub run_method-returns-in_err-run_body : goal.run_method-returns-in_err-run_body
run_method-returns-in_err-run_body t c =
    let p = c.args.plan.now in
    let m = c.args.name.now in
    let env = values_in p c.args.values.now in
    let returned = err_from_is_err_and c.from_residual.result c.from_residual.ensures.1 in
    subst (CallAnswer p c.args.chain m c.args.values.now c.run_body.new.values) (sym returned.1)
    (subst (CallsFail (scope_in p) (methods_in p) c.args.chain m env) (sym returned.2)
    (call_fails (scope_in p) (methods_in p) m env (body_of c.in-Some.body.now) (sym c.in-Some.ensures.body) c.args.chain _
    (omega (arith, c.if-chain-eq0.false)) c.in_err-run_body.ensures))

pub run_method-returns : goal.run_method-returns
run_method-returns t c =
    let p = c.args.plan.now in
    executes (scope_in p) (methods_in p) c.args.name.now (values_in p c.args.values.now)
    (body_of c.in-Some.body.now) (sym c.in-Some.ensures.body) c.args.chain _ (omega (arith, c.if-chain-eq0.false))
    c.in_ok-run_body.ensures.0

pub run_statement-run_if-requires : goal.run_statement-run_if-requires
run_statement-run_if-requires t c =
    let is =
    branch_is c.args.stmt.now c.in-If.test c.in-If.yes c.in-If.no c.deref.result.now c.deref-in-If.result.now
    c.in-If.is c.deref.ensures.value c.deref-in-If.ensures.value done in
    let count = ap written is in (
      omega (arith, count, c.decreases),
      subst (λ b. CanRun c.args.plan.now c.args.spot b c.args.values.now) is c.requires,
    )

pub run_statement-returns-in-If : goal.run_statement-returns-in-If
run_statement-returns-in-If t c =
    let is =
    branch_is c.args.stmt.now c.in-If.test c.in-If.yes c.in-If.no c.deref.result.now c.deref-in-If.result.now
    c.in-If.is c.deref.ensures.value c.deref-in-If.ensures.value done in
    subst
    (λ b. BodyAnswer c.args.plan.now c.args.spot b c.args.values.now c.run_if.new.values c.run_if.result)
    (sym is) c.run_if.ensures
