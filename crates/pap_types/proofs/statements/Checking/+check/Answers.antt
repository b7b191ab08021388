use Rattle.std.proofs.Common.{◌≡◌, refl, sym, ap, ◌∙◌, subst, arith}
use Rattle.pap_tree.specs.Term.{term_of}
use Rattle.pap_tree.specs.Flowchart.{done, stmt_then, body_of}
use Rattle.pap_tree.specs.Statements.{written}
use Rattle.pap_tree.proofs.Laws.{branch_is}
use Rattle.pap_types.specs.Counts.{AreSmallTerms}
use Rattle.pap_types.specs.private.StatementViews.{BodyAnswer, checks_from}
use Rattle.pap_types.specs.declared.nodes.Statement.{Statement}
use Rattle.pap_types.specs.Checks.{first_fault, place}
use Rattle.pap_types.proofs.BodyLemmas.{of_statement, execute_passes, execute_fails, small_here, room_here, failed_here, one_step, branches_early, branches_answer, branch_early, branch_answer}
use Rattle.pap_types.proofs.statements.Checking.+check.Goals as goal

pub check_body-check_statement-requires : goal.check_body-check_statement-requires
check_body-check_statement-requires t c =
    let h = room_here c.args.self.now c.args.at c.loop-stmt.number c.args.body.now c.loop-stmt.stmt-index c.stmt-item.result c.stmt-item.is c.loop-stmt-test.true c.loop-stmt.invariant in
    let count = c.loop-stmt.invariant.count in
    let from = c.loop-stmt.invariant.from in
    (omega arith, (c.requires.numbered, (small_here c.args.self.now c.args.at c.loop-stmt.number c.args.body.now c.loop-stmt.stmt-index c.stmt-item.result c.stmt-item.is c.loop-stmt-test.true c.loop-stmt.invariant, omega arith)))

pub check_body-loop-stmt-preserved : goal.check_body-loop-stmt-preserved
check_body-loop-stmt-preserved t c =
    let h = c.in_ok-number.ensures in
    one_step c.args.self.now c.args.at c.loop-stmt.number c.args.body.now c.loop-stmt.stmt-index c.stmt-item.result c.stmt-item.is c.loop-stmt-test.true c.loop-stmt.invariant c.in_ok-number.number h.0 h.1

pub check_body-returns-in_err-number : goal.check_body-returns-in_err-number
check_body-returns-in_err-number t c =
    failed_here c.args.self.now c.args.at c.loop-stmt.number c.args.body.now c.loop-stmt.stmt-index c.stmt-item.result c.stmt-item.is c.loop-stmt-test.true c.loop-stmt.invariant c.from_residual.result c.in_err-number.field-0.0 c.in_err-number.ensures c.from_residual.ensures.1

pub check_branches-returns-in_err-next : goal.check_branches-returns-in_err-next
check_branches-returns-in_err-next t c =
    branches_early c.args.self.now c.args.at (body_of c.args.yes.now) (body_of c.args.no.now) c.from_residual.result c.in_err-next.field-0.0 c.in_err-next.ensures c.from_residual.ensures.1

pub check_branches-returns : goal.check_branches-returns
check_branches-returns t c =
    let yes = c.in_ok-next.ensures in
    branches_answer c.args.self.now c.args.at (body_of c.args.yes.now) (body_of c.args.no.now) c.in_ok-next.next c.check_body-2.result yes.0 yes.1 c.check_body-2.ensures

pub check_statement-returns-then-not-contains : goal.check_statement-returns-then-not-contains
check_statement-returns-then-not-contains t c =
    let x = c.in-Execute.method in
    let at : c.place.result ≡ place c.args.self.now.method c.args.number 0 = c.place.ensures ∙ ap (λ (s : Statement). place s.method s.number 0) c.statement-statement.ensures in
    ap (λ s. first_fault (checks_from c.args.self.now c.args.number (stmt_then s done))) c.in-Execute.is
    ∙ execute_fails c.args.self.now c.args.number x c.args.self.now.scope.names.now.methods c.requires.numbered.methods c.place.result (sym c.contains.ensures ∙ c.if-not-contains.true) at

pub check_statement-returns-else-not-contains : goal.check_statement-returns-else-not-contains
check_statement-returns-else-not-contains t c =
    let x = c.in-Execute.method in
    let count = ap (λ s. written (stmt_then s done)) c.in-Execute.is in (
      ap (λ s. first_fault (checks_from c.args.self.now c.args.number (stmt_then s done))) c.in-Execute.is
          ∙ execute_passes c.args.self.now c.args.number x c.args.self.now.scope.names.now.methods c.requires.numbered.methods (sym c.contains.ensures ∙ c.if-not-contains.false),
      omega arith,
    )

pub check_statement-returns-in_err-check_test-in-If : goal.check_statement-returns-in_err-check_test-in-If
check_statement-returns-in_err-check_test-in-If t c =
    let yes = c.in-If.yes.items in
    let no = c.in-If.no.items in
    let same = branch_is c.args.stmt.now c.in-If.test c.in-If.yes c.in-If.no yes no c.in-If.is refl refl done in
    subst (λ b. BodyAnswer c.args.self.now c.args.number b c.from_residual-in_err-check_test-in-If.result) (sym same) (branch_early c.args.self.now c.args.number (term_of c.in-If.test) (body_of yes) (body_of no) c.from_residual-in_err-check_test-in-If.result c.in_err-check_test-in-If.field-0.0 (of_statement (term_of c.in-If.test) _ c.statement-statement.ensures c.in_err-check_test-in-If.ensures) c.from_residual-in_err-check_test-in-If.ensures.1)

pub check_statement-check_branches-requires : goal.check_statement-check_branches-requires
check_statement-check_branches-requires t c =
    let same = branch_is c.args.stmt.now c.in-If.test c.in-If.yes c.in-If.no c.deref.result.now c.deref-in-If.result.now c.in-If.is c.deref.ensures.value c.deref-in-If.ensures.value done in
    let length = ap written same in
    let small = subst AreSmallTerms same c.requires.small in
    (omega arith, (c.requires.numbered, (small.1, (small.2, omega arith))))

pub check_statement-returns-in_ok-check_test-in-If : goal.check_statement-returns-in_ok-check_test-in-If
check_statement-returns-in_ok-check_test-in-If t c =
    let same = branch_is c.args.stmt.now c.in-If.test c.in-If.yes c.in-If.no c.deref.result.now c.deref-in-If.result.now c.in-If.is c.deref.ensures.value c.deref-in-If.ensures.value done in
    subst (λ b. BodyAnswer c.args.self.now c.args.number b c.check_branches.result) (sym same) (branch_answer c.args.self.now c.args.number (term_of c.in-If.test) (body_of c.deref.result.now) (body_of c.deref-in-If.result.now) c.check_branches.result (of_statement (term_of c.in-If.test) _ c.statement-statement.ensures c.in_ok-check_test-in-If.ensures) c.check_branches.ensures)
