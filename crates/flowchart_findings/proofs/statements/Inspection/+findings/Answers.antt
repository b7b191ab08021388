use Rattle.std.proofs.Common.{◌+◌, ap, arith}
use Rattle.pap_tree.specs.Flowchart.{body_of}
use Rattle.pap_tree.proofs.Laws.{written_at}
use Rattle.flowchart_findings.proofs.StatementLemmas.{one_step, if_written, branches_added, dead_finds, eval_finds, execute_finds, if_finds}
use Rattle.flowchart_findings.proofs.statements.Inspection.+findings.Goals as goal

pub add_body-add_statement-requires : goal.add_body-add_statement-requires
add_body-add_statement-requires t c =
    let h = written_at c.args.body.now c.loop-stmt.stmt-index c.stmt-item.result c.stmt-item.is c.loop-stmt-test.true in
    let count = c.loop-stmt.invariant.count in
    let from = c.loop-stmt.invariant.from in
    (omega (arith, h, count, from), omega (arith, h, count, from))

pub add_body-loop-stmt-preserved : goal.add_body-loop-stmt-preserved
add_body-loop-stmt-preserved t c =
    one_step c.args.self.now c.args.body.now c.loop-stmt.stmt-index c.stmt-item.result c.args.at c.loop-stmt.number
    c.in_ok-number.number c.loop-stmt.is_behind_dead c.is_dead-dead.result _ _ _ c.stmt-item.is c.loop-stmt-test.true
    c.is_dead-dead.ensures c.loop-stmt.invariant c.in_ok-number.ensures

pub add_statement-returns-then-is_dead : goal.add_statement-returns-then-is_dead
add_statement-returns-then-is_dead t c =
    dead_finds c.args.self.now c.args.stmt.now c.args.number c.args.is_behind_dead c.is_dead.result c.is_dead.ensures
    c.args.out.now.items _ c.written_in.result c.if-is_dead.true c.in_ok-add_dead.ensures c.written_in.ensures

pub add_statement-returns-in_ok-add_value-in-Eval : goal.add_statement-returns-in_ok-add_value-in-Eval
add_statement-returns-in_ok-add_value-in-Eval t c =
    eval_finds c.args.self.now c.args.stmt.now c.args.number c.args.is_behind_dead c.is_dead.result c.is_dead.ensures
    c.in-Eval.target _ c.args.out.now.items _ c.in-Eval.is c.if-is_dead.false c.in_ok-add_value-in-Eval.ensures

pub add_statement-returns-in-Execute : goal.add_statement-returns-in-Execute
add_statement-returns-in-Execute t c =
    execute_finds c.args.self.now c.args.stmt.now c.args.number c.args.is_behind_dead c.is_dead.result c.is_dead.ensures
    _ c.args.out.now.items c.in-Execute.is c.if-is_dead.false

pub add_statement-add_branches-requires : goal.add_statement-add_branches-requires
add_statement-add_branches-requires t c =
    let same = if_written c.args.stmt.now _ _ _ c.deref.result.now c.deref-in-If.result.now c.in-If.is c.deref.ensures.value
    c.deref-in-If.ensures.value in
    (omega (arith, same), omega (arith, same))

pub add_statement-returns-in-If : goal.add_statement-returns-in-If
add_statement-returns-in-If t c =
    if_finds c.args.self.now c.args.stmt.now c.args.number c.args.is_behind_dead c.is_dead.result c.is_dead.ensures
    _ _ _ c.deref.result.now c.deref-in-If.result.now c.args.out.now.items _ c.add_branches.result c.in-If.is
    c.deref.ensures.value c.deref-in-If.ensures.value c.if-is_dead.false c.add_branches.ensures

pub add_branches-returns : goal.add_branches-returns
add_branches-returns t c =
    branches_added c.args.self.now c.args.number (c.args.number + 1 + c.written.result) (body_of c.args.yes.now)
    (body_of c.args.no.now) c.args.out.now.items _ _ _ _ c.add_body-2.result (ap (λ n. c.args.number + 1 + n) c.written.ensures)
    c.in_ok-add_tests.ensures c.in_ok-add_body.ensures c.add_body-2.ensures
