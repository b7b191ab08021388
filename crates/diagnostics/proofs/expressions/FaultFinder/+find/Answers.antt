use Rattle.std.proofs.Common.{◌+◌, drop, ap, subst, arith}
use Rattle.std.proofs.Math.ListN.{drop_of_length-le}
use Rattle.pap_reader.specs.Trees.{done, raw_body_of}
use Rattle.pap_reader.specs.TreeLimits.{raw_written}
use Rattle.diagnostics.proofs.FindLemmas.{GoesOnBody, body_begins, body_ends, body_goes_on, branch_ends, raw_stmt_at, written_if, written_some, written_split}
use Rattle.diagnostics.proofs.expressions.FaultFinder.+find.Goals as goal

pub find_in_body-loop-statement-init : goal.find_in_body-loop-statement-init
find_in_body-loop-statement-init t c =
    (body_begins c.args.method c.args.at (raw_body_of c.args.raw.now) c.args.self.now.faults.items, omega arith)

pub find_in_body-find_in_statement-requires : goal.find_in_body-find_in_statement-requires
find_in_body-find_in_statement-requires t c =
    let l = c.loop-statement in
    let whole = ap raw_written (raw_stmt_at c.args.raw.now l.statement-index c.statement-item.result c.statement-item.is c.loop-statement-test.true) in
    let split = written_split c.statement-item.result (raw_body_of (drop (l.statement-index + 1) c.args.raw.now)) in
    let counted = l.invariant.0.counted in
    (omega (arith, whole, split, counted, l.invariant.1), omega (arith, whole, split, counted, c.requires.room))

pub find_in_body-loop-statement-preserved : goal.find_in_body-loop-statement-preserved
find_in_body-loop-statement-preserved t c =
    let l = c.loop-statement in
    let raw = c.args.raw.now in
    let all = raw_body_of raw in
    let left = raw_body_of (drop (l.statement-index + 1) raw) in
    let statement = c.statement-item.result in
    let e = raw_stmt_at raw l.statement-index statement c.statement-item.is c.loop-statement-test.true in
    let before = c.args.self.now.faults.items in
    let now = l.self.faults.items in
    let found = c.in_ok-next.ensures in (
      body_goes_on c.args.method c.args.at l.next _ all left statement before now c.find_in_statement.new.self.faults.items
          (subst (λ b. GoesOnBody c.args.method c.args.at l.next all b before now) e l.invariant.0) found,
      omega (arith, l.invariant.1, found.counted done, written_some statement),
    )

pub find_in_body-returns-clause-finds : goal.find_in_body-returns-clause-finds
find_in_body-returns-clause-finds t c =
    let l = c.loop-statement in
    body_ends c.args.method c.args.at l.next (raw_body_of c.args.raw.now) (raw_body_of (drop l.statement-index c.args.raw.now)) c.args.self.now.faults.items l.self.faults.items
    (ap raw_body_of (drop_of_length-le c.args.raw.now (omega (arith, c.loop-statement-test.false)))) l.invariant.0

pub find_in_body-returns-clause-next : goal.find_in_body-returns-clause-next
find_in_body-returns-clause-next t c =
    let none = drop_of_length-le c.args.raw.now {i = c.loop-statement.statement-index} (omega (arith, c.loop-statement-test.false)) in
    omega (arith, ap (λ l. raw_written (raw_body_of l)) none, c.loop-statement.invariant.0.counted)

pub find_in_statement-find_in_body-requires : goal.find_in_statement-find_in_body-requires
find_in_statement-find_in_body-requires t c =
    let w = written_if c.args.raw.now c.in-If.test c.in-If.yes c.in-If.no c.in-If.is in
    let a = ap (λ l. raw_written (raw_body_of l)) c.deref-in-If-2.ensures.value in
    (omega (arith, w, a), omega (arith, w, a, c.requires.room))

pub find_in_statement-find_in_body-requires-in-If : goal.find_in_statement-find_in_body-requires-in-If
find_in_statement-find_in_body-requires-in-If t c =
    let w = written_if c.args.raw.now c.in-If.test c.in-If.yes c.in-If.no c.in-If.is in
    let a = ap (λ l. raw_written (raw_body_of l)) c.deref-in-If-2.ensures.value in
    let b = ap (λ l. raw_written (raw_body_of l)) c.deref-in-If-3.ensures.value in
    (omega (arith, w, b), omega (arith, w, a, b, c.in_ok-next-in-If.ensures.next, c.requires.room))

pub find_in_statement-returns-in_ok-next-in-If : goal.find_in_statement-returns-in_ok-next-in-If
find_in_statement-returns-in_ok-next-in-If t c =
    branch_ends c.args.method c.args.at c.in_ok-next-in-If.next c.args.raw.now c.in-If.test c.in-If.yes c.in-If.no c.deref-in-If.result.now c.deref-in-If-2.result.now c.deref-in-If-3.result.now
    c.args.self.now.faults.items c.try_test.new.self.faults.items c.find_in_body.new.self.faults.items c.find_in_body-in-If.new.self.faults.items c.find_in_body-in-If.result
    c.in-If.is c.deref-in-If.ensures.value c.deref-in-If-2.ensures.value c.deref-in-If-3.ensures.value c.in_ok-next-in-If.ensures.next
    c.in_ok-try_test-in-If.ensures c.in_ok-next-in-If.ensures.finds c.find_in_body-in-If.ensures.finds c.find_in_body-in-If.ensures.next
