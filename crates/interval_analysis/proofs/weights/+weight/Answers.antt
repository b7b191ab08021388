use Rattle.std.proofs.Common.{refl, ap, arith}
use Rattle.pap_tree.specs.Flowchart.{done}
use Rattle.pap_tree.specs.Statements.{written}
use Rattle.pap_tree.proofs.Laws.{branch_is, written_at}
use Rattle.interval_analysis.proofs.weights.+weight.Goals as goal

pub weight-stmt_weight-requires : goal.weight-stmt_weight-requires
weight-stmt_weight-requires t c =
    let count = written_at c.args.body.now c.loop-stmt.stmt-index c.stmt-item.result c.stmt-item.is c.loop-stmt-test.true in
    omega (arith, count, c.loop-stmt.invariant)

pub weight-loop-stmt-preserved : goal.weight-loop-stmt-preserved
weight-loop-stmt-preserved t c =
    let count = written_at c.args.body.now c.loop-stmt.stmt-index c.stmt-item.result c.stmt-item.is c.loop-stmt-test.true in
    omega (arith, count, c.loop-stmt.invariant)

pub stmt_weight-weight-requires : goal.stmt_weight-weight-requires
stmt_weight-weight-requires t c =
    let count = ap written (branch_is c.args.stmt.now c.in-If.test c.in-If.yes c.in-If.no c.deref.result.now c.in-If.no.items c.in-If.is c.deref.ensures.value refl done) in
    omega (arith, count)

pub stmt_weight-weight-second-requires : goal.stmt_weight-weight-second-requires
stmt_weight-weight-second-requires t c =
    let count = ap written (branch_is c.args.stmt.now c.in-If.test c.in-If.yes c.in-If.no c.deref.result.now c.deref-in-If.result.now c.in-If.is c.deref.ensures.value c.deref-in-If.ensures.value done) in
    omega (arith, count)
