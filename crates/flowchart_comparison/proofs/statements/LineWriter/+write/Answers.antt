use Rattle.std.proofs.Common.{ap, arith}
use Rattle.std.proofs.Math.ListN.{drop_of_length-le}
use Rattle.std.proofs.lemmas.Result.{on_ok_weaker}
use Rattle.pap_tree.specs.Flowchart.{body_of}
use Rattle.flowchart_comparison.proofs.LineLemmas.{one_more, all_added, if_added}
use Rattle.flowchart_comparison.proofs.statements.LineWriter.+write.Goals as goal

pub write_body-loop-statement-preserved : goal.write_body-loop-statement-preserved
write_body-loop-statement-preserved t c =
    one_more (body_of c.args.body.now) c.args.body.now c.loop-statement.statement-index c.statement-item.result _ _ _ _ _ _
    c.statement-item.is c.loop-statement-test.true c.loop-statement.invariant c.in_ok-write_statement.ensures

pub write_body-returns : goal.write_body-returns
write_body-returns t c =
    let none = ap body_of (drop_of_length-le c.args.body.now (omega (arith, c.loop-statement-test.false))) in
    all_added (body_of c.args.body.now) _ _ _ _ _ none c.loop-statement.invariant

pub write_statement-returns-in_ok-write_body-in-If-2 : goal.write_statement-returns-in_ok-write_body-in-If-2
write_statement-returns-in_ok-write_body-in-If-2 t c =
    on_ok_weaker c.push_mark.result
    (λ end. if_added c.args.statement.now c.in-If.test c.in-If.yes c.in-If.no c.deref.result.now c.deref-in-If-2.result.now
    c.deref-in-If.result.now _ _ _ _ _ _ _ _ _ _ _ _ _ c.in-If.is c.deref.ensures.value c.deref-in-If-2.ensures.value
    c.deref-in-If.ensures.value c.in_ok-text-in-If.ensures c.in_ok-push_statement-in-If.ensures
    c.in_ok-write_body-in-If.ensures c.in_ok-push_else-in-If.ensures c.in_ok-write_body-in-If-2.ensures end)
    c.push_mark.ensures
