use Rattle.std.proofs.Common.{arith}
use Rattle.flowchart_methods.proofs.ConditionLemmas.{conditions_next, number_next, conditions_all, number_all, of_if, after_if}
use Rattle.flowchart_methods.proofs.conditions.Reading.+reading.Goals as goal

-- one statement more
pub body-loop-statement-preserved : goal.body-loop-statement-preserved
body-loop-statement-preserved t c = (
  conditions_next c.args.condition c.args.statements.now c.loop-statement.statement-index c.loop-statement.self.next
      c.statement.new.self.next c.statement-item.result c.loop-statement.self.conditions.items
      c.statement.new.self.conditions.items _ (omega (arith, c.loop-statement-test.true)) c.statement-item.is
      c.in_ok-statement.ensures.next c.in_ok-statement.ensures.conditions c.loop-statement.invariant.0,
  number_next c.args.statements.now c.loop-statement.statement-index c.loop-statement.self.next c.statement.new.self.next _
      c.statement-item.result (omega (arith, c.loop-statement-test.true)) c.statement-item.is c.in_ok-statement.ensures.next
      c.loop-statement.invariant.1,
)

pub body-returns : goal.body-returns
body-returns t c = record {
  conditions = conditions_all c.args.condition c.args.statements.now c.loop-statement.statement-index c.loop-statement.self.next
      c.loop-statement.self.conditions.items _ (omega (arith, c.loop-statement-test.false)) c.loop-statement.invariant.0;
  next = number_all c.args.statements.now c.loop-statement.statement-index c.loop-statement.self.next _
      (omega (arith, c.loop-statement-test.false)) c.loop-statement.invariant.1;
}

pub statement-returns-in_ok-body-in-If-2-clause-conditions : goal.statement-returns-in_ok-body-in-If-2-clause-conditions
statement-returns-in_ok-body-in-If-2-clause-conditions t c =
    of_if c.args.condition c.args.self.now.next c.note.new.self.next c.body.new.self.next c.args.statement.now c.in-If.test
    c.in-If.yes c.in-If.no c.deref.result.now c.deref-in-If.result.now c.args.self.now.conditions.items
    c.note.new.self.conditions.items c.body.new.self.conditions.items c.body-in-If.new.self.conditions.items c.in-If.is
    c.deref.ensures.value c.deref-in-If.ensures.value c.in_ok-note.ensures.next c.in_ok-body-in-If.ensures.next
    c.in_ok-note.ensures.conditions c.in_ok-body-in-If.ensures.conditions c.in_ok-body-in-If-2.ensures.conditions

pub statement-returns-in_ok-body-in-If-2-clause-next : goal.statement-returns-in_ok-body-in-If-2-clause-next
statement-returns-in_ok-body-in-If-2-clause-next t c =
    after_if c.args.self.now.next c.note.new.self.next c.body.new.self.next c.body-in-If.new.self.next c.args.statement.now
    c.in-If.test c.in-If.yes c.in-If.no c.deref.result.now c.deref-in-If.result.now c.in-If.is c.deref.ensures.value
    c.deref-in-If.ensures.value c.in_ok-note.ensures.next c.in_ok-body-in-If.ensures.next c.in_ok-body-in-If-2.ensures.next
