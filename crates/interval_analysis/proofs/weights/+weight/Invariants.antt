use Rattle.std.proofs.Common.{◌+◌, ◌*◌, ◌≤◌, drop}
use Rattle.pap_tree.specs.Flowchart.{body_of, stmt_then, done}
use Rattle.pap_tree.specs.Statements.{written}
use Rattle.interval_analysis.proofs.weights.+weight.Given as goal

abbrev pub decreases-weight : goal.decreases-weight
decreases-weight l = 2 * written (body_of l.body.now) + 1

abbrev pub decreases-stmt_weight : goal.decreases-stmt_weight
decreases-stmt_weight l = 2 * written (stmt_then l.stmt.now done)

abbrev pub invariant-weight-loop-stmt : goal.invariant-weight-loop-stmt
invariant-weight-loop-stmt l = written (body_of (drop l.stmt-index l.body)) ≤ written (body_of l.body)
