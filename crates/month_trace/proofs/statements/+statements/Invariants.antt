use Rattle.std.proofs.Common.{◌≡◌, ◌+◌, ◌*◌, ◌^◌, ◌≤◌, drop}
use Rattle.pap_tree.specs.Flowchart.{body_of, stmt_then, done}
use Rattle.pap_tree.specs.Statements.{written}
use Rattle.run_values.specs.private.ValueViews.{values_in}
use Rattle.month_trace.specs.private.WalkViews.{CanRun, after_in, traced_in, followed}
use Rattle.month_trace.proofs.statements.+statements.Given as goal

-- the chain of methods that is left counts first, and then the statements
abbrev pub decreases-run_body : goal.decreases-run_body
decreases-run_body l = l.spot.chain * 2 ^ 40 + 4 * written (body_of l.body.now) + 1

abbrev pub decreases-run_statement : goal.decreases-run_statement
decreases-run_statement l = l.spot.chain * 2 ^ 40 + 4 * written (stmt_then l.stmt.now done)

abbrev pub decreases-run_if : goal.decreases-run_if
decreases-run_if l = l.spot.chain * 2 ^ 40 + 4 * (written (body_of l.yes.now) + written (body_of l.no.now)) + 3

abbrev pub decreases-run_execute : goal.decreases-run_execute
decreases-run_execute l = l.spot.chain * 2 ^ 40 + 3

abbrev pub decreases-run_method : goal.decreases-run_method
decreases-run_method l = l.chain * 2 ^ 40

abbrev pub invariant-run_body-loop-stmt : goal.invariant-run_body-loop-stmt
invariant-run_body-loop-stmt l = record {
  number : l.next + written (body_of (drop l.stmt-index l.body)) ≡ l.fn.spot.at + written (body_of l.body);
  above : l.fn.spot.at ≤ l.next;
  run : CanRun l.plan (record l.fn.spot { at = l.next }) (body_of (drop l.stmt-index l.body)) l.values;
  ends :
      after_in l.plan l.fn.spot.chain (body_of (drop l.stmt-index l.body)) (values_in l.plan l.values)
      ≡ after_in l.plan l.fn.spot.chain (body_of l.body) (values_in l.plan l.initial.values);
  steps :
      followed l.steps.items
      (traced_in l.plan (record l.fn.spot { at = l.next }) (body_of (drop l.stmt-index l.body))
      (values_in l.plan l.values))
      ≡ followed l.initial.steps.items
      (traced_in l.plan l.fn.spot (body_of l.body) (values_in l.plan l.initial.values));
}
