use Rattle.std.proofs.Common.{◌+◌, drop, refl, sym, ap, subst, ◌∙◌, arith}
use Rattle.std.proofs.Math.ListN.{drop_of_length-le}
use Rattle.pap_tree.specs.Flowchart.{body_of}
use Rattle.pap_reader.specs.Trees.{done, raw_body_of}
use Rattle.pap_reader.specs.TreeLimits.{raw_written}
use Rattle.plan_text.specs.Plans.{IsBody}
use Rattle.plan_text.specs.Sites.{body_sites}
use Rattle.plan_text.proofs.SiteLemmas.{passed}
use Rattle.plan_text.proofs.StatementLemmas.{AreRead, none_yet, one_more, fails_at, all_read, raw_stmt_at, written_split, written_some, written_if, statement_fails, if_test_fails, if_first_fails, if_second_fails, if_is, eval_tells}
use Rattle.plan_text.proofs.statements.StatementReader.+read.Goals as goal

pub read_body-loop-statement-init : goal.read_body-loop-statement-init
read_body-loop-statement-init t c =
    let s = c.args.self.now in
    let all = raw_body_of c.args.raw.now in
    (subst (AreRead s.method s.next s.next all all) (sym c.new-read.ensures.items) (none_yet s.method s.next all), refl, omega arith)

pub read_body-read_statement-requires : goal.read_body-read_statement-requires
read_body-read_statement-requires t c =
    let e = raw_stmt_at c.args.raw.now c.loop-statement.statement-index c.statement-item.result c.statement-item.is c.loop-statement-test.true in
    let split = written_split c.statement-item.result (raw_body_of (drop (c.loop-statement.statement-index + 1) c.args.raw.now)) in
    let counted = c.loop-statement.invariant.0.counted in
    let whole = ap raw_written e in
    (omega (arith, whole, split, counted, c.loop-statement.invariant.2), omega (arith, whole, split, counted, c.requires.room))

pub read_body-returns-in_err-read_statement-clause-says : goal.read_body-returns-in_err-read_statement-clause-says
read_body-returns-in_err-read_statement-clause-says t c =
    let s = c.args.self.now in
    let all = raw_body_of c.args.raw.now in
    let left = raw_body_of (drop (c.loop-statement.statement-index + 1) c.args.raw.now) in
    let e = raw_stmt_at c.args.raw.now c.loop-statement.statement-index c.statement-item.result c.statement-item.is c.loop-statement-test.true in
    passed (body_sites s.method s.next all) (λ read. IsBody all (body_of read.items)) c.from_residual.result c.in_err-read_statement.field-0.0
    (fails_at s.method c.loop-statement.self.method s.next c.loop-statement.self.next all left c.statement-item.result c.loop-statement.read.items c.in_err-read_statement.field-0.0 c.loop-statement.invariant.1
    (subst (λ l. AreRead s.method s.next c.loop-statement.self.next all l c.loop-statement.read.items) e c.loop-statement.invariant.0) c.in_err-read_statement.ensures.says)
    c.from_residual.ensures.1

pub read_body-returns-in_err-read_statement-clause-method : goal.read_body-returns-in_err-read_statement-clause-method
read_body-returns-in_err-read_statement-clause-method t c = c.read_statement.ensures.method ∙ c.loop-statement.invariant.1

pub read_body-returns-in_err-push-clause-method : goal.read_body-returns-in_err-push-clause-method
read_body-returns-in_err-push-clause-method t c = c.read_statement.ensures.method ∙ c.loop-statement.invariant.1

pub read_body-loop-statement-preserved : goal.read_body-loop-statement-preserved
read_body-loop-statement-preserved t c =
    let s = c.args.self.now in
    let all = raw_body_of c.args.raw.now in
    let left = raw_body_of (drop (c.loop-statement.statement-index + 1) c.args.raw.now) in
    let e = raw_stmt_at c.args.raw.now c.loop-statement.statement-index c.statement-item.result c.statement-item.is c.loop-statement-test.true in
    let next = c.read_statement.new.self.next in
    let h = one_more s.method c.loop-statement.self.method s.next c.loop-statement.self.next next all left c.statement-item.result c.loop-statement.read.items c.in_ok-read_statement.field-0 c.loop-statement.invariant.1
    (subst (λ l. AreRead s.method s.next c.loop-statement.self.next all l c.loop-statement.read.items) e c.loop-statement.invariant.0) c.in_ok-read_statement.ensures.says in (
      subst (AreRead s.method s.next next all left) (sym c.in_ok-push.ensures.items) h,
      c.read_statement.ensures.method ∙ c.loop-statement.invariant.1,
      omega (arith, c.loop-statement.invariant.2, c.in_ok-read_statement.ensures.says.counted done, written_some c.statement-item.result),
    )

pub read_body-returns-clause-says : goal.read_body-returns-clause-says
read_body-returns-clause-says t c =
    let s = c.args.self.now in
    let all = raw_body_of c.args.raw.now in
    let e = ap raw_body_of (drop_of_length-le c.args.raw.now (omega (arith, c.loop-statement-test.false))) in
    all_read s.method s.next c.loop-statement.self.next all c.loop-statement.read.items
    (subst (λ l. AreRead s.method s.next c.loop-statement.self.next all l c.loop-statement.read.items) e c.loop-statement.invariant.0)

pub read_body-returns-clause-next : goal.read_body-returns-clause-next
read_body-returns-clause-next t c =
    let none = drop_of_length-le c.args.raw.now {i = c.loop-statement.statement-index} (omega (arith, c.loop-statement-test.false)) in
    let e = ap (λ l. raw_written (raw_body_of l)) none in
    omega (arith, e, c.loop-statement.invariant.0.counted)

pub read_body-returns-clause-method : goal.read_body-returns-clause-method
read_body-returns-clause-method t c = c.loop-statement.invariant.1

pub read_statement-returns-in_err-test-in-If-clause-says : goal.read_statement-returns-in_err-test-in-If-clause-says
read_statement-returns-in_err-test-in-If-clause-says t c =
    let s = c.args.self.now in
    statement_fails s.method s.next _ c.args.raw.now c.from_residual.result c.in_err-test-in-If.field-0.0
    (if_test_fails s.method s.next c.args.raw.now c.in-If.test c.in-If.yes c.in-If.no c.deref-in-If.result.now c.in_err-test-in-If.field-0.0 c.in-If.is c.deref-in-If.ensures.value c.in_err-test-in-If.ensures.says)
    c.from_residual.ensures.1

pub read_statement-read_body-requires : goal.read_statement-read_body-requires
read_statement-read_body-requires t c =
    let w = written_if c.args.raw.now c.in-If.test c.in-If.yes c.in-If.no c.in-If.is in
    let a = ap (λ l. raw_written (raw_body_of l)) c.deref-in-If-2.ensures.value in
    (omega (arith, w, a), omega (arith, w, a, c.read_test.ensures.next, c.requires.room))

pub read_statement-returns-in_err-yes-in-If-clause-says : goal.read_statement-returns-in_err-yes-in-If-clause-says
read_statement-returns-in_err-yes-in-If-clause-says t c =
    let s = c.args.self.now in
    statement_fails s.method s.next _ c.args.raw.now c.from_residual-in_err-yes-in-If.result c.in_err-yes-in-If.field-0.0
    (if_first_fails s.method c.read_test.new.self.method s.next c.read_test.new.self.next c.args.raw.now c.in-If.test c.in-If.yes c.in-If.no c.deref-in-If.result.now c.in_ok-test-in-If.test c.deref-in-If-2.result.now c.in_err-yes-in-If.field-0.0
    c.in-If.is c.deref-in-If.ensures.value c.deref-in-If-2.ensures.value c.read_test.ensures.method c.read_test.ensures.next c.in_ok-test-in-If.ensures.says c.in_err-yes-in-If.ensures.says)
    c.from_residual-in_err-yes-in-If.ensures.1

pub read_statement-read_body-requires-in-If : goal.read_statement-read_body-requires-in-If
read_statement-read_body-requires-in-If t c =
    let w = written_if c.args.raw.now c.in-If.test c.in-If.yes c.in-If.no c.in-If.is in
    let a = ap (λ l. raw_written (raw_body_of l)) c.deref-in-If-2.ensures.value in
    let b = ap (λ l. raw_written (raw_body_of l)) c.deref-in-If-3.ensures.value in
    (omega (arith, w, b), omega (arith, w, a, b, c.read_test.ensures.next, c.in_ok-yes-in-If.ensures.next, c.requires.room))

pub read_statement-returns-in_err-no-in-If-clause-says : goal.read_statement-returns-in_err-no-in-If-clause-says
read_statement-returns-in_err-no-in-If-clause-says t c =
    let s = c.args.self.now in
    statement_fails s.method s.next _ c.args.raw.now c.from_residual-in_err-no-in-If.result c.in_err-no-in-If.field-0.0
    (if_second_fails s.method c.read_body.new.self.method s.next c.read_body.new.self.next c.args.raw.now c.in-If.test c.in-If.yes c.in-If.no c.deref-in-If.result.now c.in_ok-test-in-If.test c.deref-in-If-2.result.now c.deref-in-If-3.result.now c.in_ok-yes-in-If.yes c.in_err-no-in-If.field-0.0
    c.in-If.is c.deref-in-If.ensures.value c.deref-in-If-2.ensures.value c.deref-in-If-3.ensures.value (c.read_body.ensures.method ∙ c.read_test.ensures.method)
    (omega (arith, c.read_test.ensures.next, c.in_ok-yes-in-If.ensures.next))
    c.in_ok-test-in-If.ensures.says c.in_ok-yes-in-If.ensures.says c.in_err-no-in-If.ensures.says)
    c.from_residual-in_err-no-in-If.ensures.1

pub read_statement-returns-in-Eval-clause-says : goal.read_statement-returns-in-Eval-clause-says
read_statement-returns-in-Eval-clause-says t c =
    let s = c.args.self.now in
    eval_tells s.method s.next c.read_eval.new.self.next c.args.raw.now c.in-Eval.exec c.deref.result.now c.read_eval.result c.in-Eval.is c.deref.ensures.value c.read_eval.ensures.next c.read_eval.ensures.says

pub read_statement-returns-in_ok-no-in-If-clause-says : goal.read_statement-returns-in_ok-no-in-If-clause-says
read_statement-returns-in_ok-no-in-If-clause-says t c =
    let s = c.args.self.now in
    if_is s.method s.next c.read_body-in-If.new.self.next c.args.raw.now c.in-If.test c.in-If.yes c.in-If.no c.deref-in-If.result.now c.in_ok-test-in-If.test c.deref-in-If-2.result.now c.deref-in-If-3.result.now c.in_ok-yes-in-If.yes c.in_ok-no-in-If.no
    c.in-If.is c.deref-in-If.ensures.value c.deref-in-If-2.ensures.value c.deref-in-If-3.ensures.value
    (omega (arith, c.read_test.ensures.next, c.in_ok-yes-in-If.ensures.next, c.in_ok-no-in-If.ensures.next))
    c.in_ok-test-in-If.ensures.says c.in_ok-yes-in-If.ensures.says c.in_ok-no-in-If.ensures.says
