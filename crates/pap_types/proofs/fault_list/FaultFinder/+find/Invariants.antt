use Rattle.std.proofs.Common.{◌+◌, ◌*◌, drop}
use Rattle.pap_tree.specs.Flowchart.{body_of, stmt_then, done}
use Rattle.pap_tree.specs.Statements.{written}
use Rattle.pap_types.proofs.StatementFaultLemmas.{IsFoundSoFar}
use Rattle.pap_types.proofs.fault_list.FaultFinder.+find.Given as goal

abbrev pub decreases-find_in_body : goal.decreases-find_in_body
decreases-find_in_body l = 2 * written (body_of l.body.now) + 1

abbrev pub decreases-find_in_statement : goal.decreases-find_in_statement
decreases-find_in_statement l = 2 * written (stmt_then l.stmt.now done)

abbrev pub invariant-find_in_body-loop-stmt : goal.invariant-find_in_body-loop-stmt
invariant-find_in_body-loop-stmt l =
    IsFoundSoFar l.checking l.fn.at l.number l.fn.self.faults.items l.self.faults.items (body_of l.body) (body_of (drop l.stmt-index l.body))
