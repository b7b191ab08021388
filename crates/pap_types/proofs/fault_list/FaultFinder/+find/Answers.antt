use Rattle.std.proofs.Common.{◌≡◌, ◌++◌, refl, sym, ap, subst, ◌∙◌, arith}
use Rattle.std.proofs.lemmas.Result.{on_ok_weaker, IfOk-weaker}
use Rattle.pap_tree.specs.Term.{term_of}
use Rattle.pap_tree.specs.Flowchart.{done, stmt_then, body_of}
use Rattle.pap_tree.specs.Statements.{written}
use Rattle.pap_tree.proofs.Laws.{branch_is}
use Rattle.pap_types.specs.Counts.{AreSmallTerms}
use Rattle.pap_types.specs.declared.nodes.Statement.{Statement}
use Rattle.pap_types.specs.Checks.{place}
use Rattle.pap_types.specs.private.FaultViews.{faults_from}
use Rattle.pap_types.specs.private.StatementViews.{IsVerdict, statement_of, test_checks_in}
use Rattle.pap_types.proofs.NameFaultLemmas.{kept_own}
use Rattle.pap_types.proofs.StatementFaultLemmas.{small_statement, room_statement, next_statement, all_statements, last_number, branch_found, execution_found}
use Rattle.pap_types.proofs.fault_list.FaultFinder.+find.Goals as goal

pub find_in_body-loop-stmt-init : goal.find_in_body-loop-stmt-init
find_in_body-loop-stmt-init t c = record { faults = refl; from = omega arith; count = refl; small = c.requires.small }

pub find_in_body-find_in_statement-requires : goal.find_in_body-find_in_statement-requires
find_in_body-find_in_statement-requires t c =
    let l = c.loop-stmt in
    let s = c.stmt-item.result in
    let before = c.args.self.now.faults.items in
    let found = l.self.faults.items in
    let room = room_statement c.args.checking.now c.args.at l.number before found c.args.body.now l.stmt-index l.invariant s c.stmt-item.is c.loop-stmt-test.true in
    let count = l.invariant.count in
    let from = l.invariant.from in
    (omega arith, (c.requires.numbered, (small_statement c.args.checking.now c.args.at l.number before found c.args.body.now l.stmt-index l.invariant s c.stmt-item.is c.loop-stmt-test.true, omega arith)))

pub find_in_body-loop-stmt-preserved : goal.find_in_body-loop-stmt-preserved
find_in_body-loop-stmt-preserved t c =
    let l = c.loop-stmt in
    let h = c.in_ok-number.ensures in
    next_statement c.args.checking.now c.args.at l.number c.args.self.now.faults.items l.self.faults.items c.args.body.now l.stmt-index l.invariant
    c.stmt-item.result c.stmt-item.is c.loop-stmt-test.true c.in_ok-number.number c.find_in_statement.new.self.faults.items h.next h.finds

pub find_in_body-returns-clause-finds : goal.find_in_body-returns-clause-finds
find_in_body-returns-clause-finds t c =
    let l = c.loop-stmt in
    all_statements c.args.checking.now c.args.at l.number c.args.self.now.faults.items l.self.faults.items c.args.body.now l.stmt-index l.invariant
    (omega (arith, c.loop-stmt-test.false))

pub find_in_body-returns-clause-next : goal.find_in_body-returns-clause-next
find_in_body-returns-clause-next t c =
    let l = c.loop-stmt in
    last_number c.args.checking.now c.args.at l.number c.args.self.now.faults.items l.self.faults.items c.args.body.now l.stmt-index l.invariant
    (omega (arith, c.loop-stmt-test.false))

pub find_in_statement-find_in_body-requires : goal.find_in_statement-find_in_body-requires
find_in_statement-find_in_body-requires t c =
    let rest = c.in-If.no.items in
    let same = branch_is c.args.stmt.now c.in-If.test c.in-If.yes c.in-If.no c.deref.result.now rest c.in-If.is c.deref.ensures.value refl done in
    let length = ap written same in
    let small = subst AreSmallTerms same c.requires.small in
    (omega arith, (c.requires.numbered, (small.1, omega arith)))

pub find_in_statement-find_in_body-requires-in-If : goal.find_in_statement-find_in_body-requires-in-If
find_in_statement-find_in_body-requires-in-If t c =
    let same = branch_is c.args.stmt.now c.in-If.test c.in-If.yes c.in-If.no c.deref.result.now c.deref-in-If.result.now c.in-If.is c.deref.ensures.value c.deref-in-If.ensures.value done in
    let length = ap written same in
    let small = subst AreSmallTerms same c.requires.small in
    let next = c.in_ok-next-in-If.ensures.next in
    (omega arith, (c.requires.numbered, (small.2, omega arith)))

pub find_in_statement-returns-in_ok-next-in-If-clause-finds : goal.find_in_statement-returns-in_ok-next-in-If-clause-finds
find_in_statement-returns-in_ok-next-in-If-clause-finds t c =
    let k = c.args.checking.now in
    let n = c.args.number in
    let test = term_of c.in-If.test in
    let before = c.args.self.now.faults.items in
    let tested = c.keep-in-If.new.self.faults.items in
    let first = c.find_in_body.new.self.faults.items in
    let last = c.find_in_body-in-If.new.self.faults.items in
    let same = branch_is c.args.stmt.now c.in-If.test c.in-If.yes c.in-If.no c.deref.result.now c.deref-in-If.result.now c.in-If.is c.deref.ensures.value c.deref-in-If.ensures.value done in
    let own =
    kept_own (test_checks_in (statement_of k n) test) c.check_test.result before tested
    (subst (λ s. IsVerdict (test_checks_in s test) c.check_test.result) c.statement-statement.ensures c.check_test.ensures) c.in_ok-keep-in-If.ensures in
    on_ok_weaker c.find_in_body-in-If.result
    (λ h. branch_found k n c.in_ok-next-in-If.next test (body_of c.deref.result.now) (body_of c.deref-in-If.result.now) before tested first last own
    c.in_ok-next-in-If.ensures.finds c.in_ok-next-in-If.ensures.next h ∙ ap (λ b. before ++ faults_from k n b) (sym same))
    c.find_in_body-in-If.ensures.finds

pub find_in_statement-returns-in_ok-next-in-If-clause-next : goal.find_in_statement-returns-in_ok-next-in-If-clause-next
find_in_statement-returns-in_ok-next-in-If-clause-next t c =
    let same = branch_is c.args.stmt.now c.in-If.test c.in-If.yes c.in-If.no c.deref.result.now c.deref-in-If.result.now c.in-If.is c.deref.ensures.value c.deref-in-If.ensures.value done in
    let length = ap written same in
    let next = c.in_ok-next-in-If.ensures.next in
    IfOk-weaker c.find_in_body-in-If.result _ _ (λ n h. omega arith) c.find_in_body-in-If.ensures.next

pub find_in_statement-returns-in_ok-keep_unless-in-Execute-clause-finds : goal.find_in_statement-returns-in_ok-keep_unless-in-Execute-clause-finds
find_in_statement-returns-in_ok-keep_unless-in-Execute-clause-finds t c =
    let k = c.args.checking.now in
    let n = c.args.number in
    let before = c.args.self.now.faults.items in
    let at : c.place.result ≡ place k.method n 0 = c.place.ensures ∙ ap (λ (s : Statement). place s.method s.number 0) c.statement-statement.ensures in
    execution_found k n c.in-Execute.method k.scope.names.now.methods c.contains-known.result c.place.result before c.keep_unless.new.self.faults.items
    c.requires.numbered.methods c.contains-known.ensures at c.in_ok-keep_unless-in-Execute.ensures
    ∙ ap (λ s. before ++ faults_from k n (stmt_then s done)) (sym c.in-Execute.is)
