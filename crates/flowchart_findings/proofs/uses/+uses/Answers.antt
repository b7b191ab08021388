use Rattle.std.proofs.Common.{refl}
use Rattle.std.proofs.lemmas.Result.{on_ok_weaker}
use Rattle.pap_tree.specs.Flowchart.{body_of}
use Rattle.flowchart_findings.proofs.UseLemmas.{one_more, if_added}
use Rattle.flowchart_findings.proofs.uses.+uses.Goals as goal

pub add_body-loop-stmt-preserved : goal.add_body-loop-stmt-preserved
add_body-loop-stmt-preserved t c =
    one_more (body_of c.args.body.now) c.args.body.now c.loop-stmt.stmt-index c.stmt-item.result _ _ _
    c.stmt-item.is c.loop-stmt-test.true c.loop-stmt.invariant c.in_ok-add_statement.ensures

pub add_statement-returns-in_ok-add_body-in-If : goal.add_statement-returns-in_ok-add_body-in-If
add_statement-returns-in_ok-add_body-in-If t c =
    on_ok_weaker c.add_body-in-If.result
    (λ end. if_added c.args.stmt.now c.in-If.test c.in-If.yes c.in-If.no c.deref.result.now c.deref-in-If.result.now
    c.args.uses.now _ _ _ c.in-If.is c.deref.ensures.value c.deref-in-If.ensures.value
    c.in_ok-add_names-in-If.ensures refl c.in_ok-add_body-in-If.ensures end)
    c.add_body-in-If.ensures
