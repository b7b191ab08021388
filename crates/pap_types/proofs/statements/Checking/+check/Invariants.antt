use Rattle.std.proofs.Common.{drop, ◌*◌, ◌+◌}
use Rattle.pap_tree.specs.Flowchart.{body_of, stmt_then, done}
use Rattle.pap_tree.specs.Statements.{written}
use Rattle.pap_types.proofs.BodyLemmas.{IsUnderWay}
use Rattle.pap_types.proofs.statements.Checking.+check.Given as goal

abbrev pub invariant-check_body-loop-stmt : goal.invariant-check_body-loop-stmt
invariant-check_body-loop-stmt l =
    IsUnderWay l.self l.at l.number (body_of l.body) (body_of (drop l.stmt-index l.body))

abbrev pub decreases-check_body : goal.decreases-check_body
decreases-check_body l = 3 * written (body_of l.body.now) + 1

abbrev pub decreases-check_statement : goal.decreases-check_statement
decreases-check_statement l = 3 * written (stmt_then l.stmt.now done)

abbrev pub decreases-check_branches : goal.decreases-check_branches
decreases-check_branches l = 3 * (written (body_of l.yes.now) + written (body_of l.no.now)) + 2
