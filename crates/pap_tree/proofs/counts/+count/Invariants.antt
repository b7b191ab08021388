use Rattle.std.proofs.Common.{◌≡◌, ◌+◌, ◌*◌, drop}
use Rattle.pap_tree.specs.Flowchart.{body_of, stmt_then, done}
use Rattle.pap_tree.specs.Statements.{written}
use Rattle.pap_tree.proofs.counts.+count.Given as goal

abbrev pub decreases-written : goal.decreases-written
decreases-written l = 2 * written (body_of l.body.now) + 1

abbrev pub decreases-written_in : goal.decreases-written_in
decreases-written_in l = 2 * written (stmt_then l.stmt.now done)

abbrev pub invariant-written-loop-stmt : goal.invariant-written-loop-stmt
invariant-written-loop-stmt l = l.count + written (body_of (drop l.stmt-index l.body)) ≡ written (body_of l.body)
