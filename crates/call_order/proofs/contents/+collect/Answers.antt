use Rattle.std.proofs.Common.{◌≡◌, ◌+◌, ap, ◌∙◌, arith}
use Rattle.std.proofs.lemmas.Result.{on_ok_weaker}
use Rattle.pap_tree.specs.Flowchart.{body_of, flowchart_of}
use Rattle.pap_tree.specs.Statements.{written}
use Rattle.call_order.specs.Graphs.{Content}
use Rattle.call_order.proofs.ContentLemmas.{written_at, written_if, written_some, executed_at, added_if, regroup}
use Rattle.call_order.proofs.contents.+collect.Goals as goal

pub collect-collect_one-requires : goal.collect-collect_one-requires
collect-collect_one-requires t c =
    let h = written_at c.args.body.now c.loop-statement.statement-index c.statement-item.result c.statement-item.is c.loop-statement-test.true in
    (omega (arith, h), (c.requires.methods, omega (arith, h)))

pub collect-loop-statement-preserved : goal.collect-loop-statement-preserved
collect-loop-statement-preserved t c =
    let ms = (flowchart_of c.args.t.now).methods in
    let h = written_at c.args.body.now c.loop-statement.statement-index c.statement-item.result c.statement-item.is c.loop-statement-test.true in
    let x = executed_at ms c.args.body.now c.loop-statement.statement-index c.statement-item.result c.statement-item.is c.loop-statement-test.true in
    let e = c.in_ok-collect_one.ensures in
    record {
      statements = omega (arith, h, e.statements);
      methods = regroup _ _ _ _ _ _ e.methods x c.loop-statement.invariant.methods;
      more = omega (arith, e.statements);
    }

pub collect_one-count-requires : goal.collect_one-count-requires
collect_one-count-requires t c = omega (arith, written_some c.args.statement.now)

pub collect_one-collect-requires : goal.collect_one-collect-requires
collect_one-collect-requires t c =
    let h = written_if _ _ _ _ c.in-If.is in
    let s = ap (λ (q : Content). q.statements) c.count.ensures in
    rw c.deref.ensures.value (omega (arith, h), (c.requires.methods, omega (arith, h, s)))

pub collect_one-collect-requires-in-If : goal.collect_one-collect-requires-in-If
collect_one-collect-requires-in-If t c =
    let h = written_if _ _ _ _ c.in-If.is in
    let s = ap (λ (q : Content). q.statements) c.count.ensures in
    let e : c.collect.new.contents.statements ≡ c.count.new.self.statements + written (body_of c.in-If.yes.items) = c.in_ok-collect-in-If.ensures.statements ∙ ap (λ l. c.count.new.self.statements + written (body_of l)) c.deref.ensures.value in
    rw c.deref-in-If.ensures.value (omega (arith, h), (c.requires.methods, omega (arith, h, s, e)))

pub collect_one-returns-in_ok-collect-in-If : goal.collect_one-returns-in_ok-collect-in-If
collect_one-returns-in_ok-collect-in-If t c =
    let first = rw c.deref.ensures.value at c.in_ok-collect-in-If.ensures in
    let second = rw c.deref-in-If.ensures.value at c.collect-in-If.ensures in
    on_ok_weaker c.collect-in-If.result (added_if c.args.t.now _ _ _ _ _ _ _ _ c.in-If.is c.count.ensures first) second
