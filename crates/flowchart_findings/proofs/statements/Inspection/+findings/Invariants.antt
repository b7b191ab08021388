use Rattle.std.proofs.Common.{drop, ◌*◌, ◌+◌}
use Rattle.pap_tree.specs.Flowchart.{body_of, stmt_then, done}
use Rattle.pap_tree.specs.Statements.{written}
use Rattle.flowchart_findings.proofs.StatementLemmas.{IsUnderWay}
use Rattle.flowchart_findings.proofs.statements.Inspection.+findings.Given as goal

abbrev pub invariant-add_body-loop-stmt : goal.invariant-add_body-loop-stmt
invariant-add_body-loop-stmt l =
    IsUnderWay l.self (body_of l.body) (body_of (drop l.stmt-index l.body)) l.at l.number l.is_behind_dead
    l.initial.out.items l.out.items

abbrev pub decreases-add_body : goal.decreases-add_body
decreases-add_body l = 3 * written (body_of l.body.now) + 1

abbrev pub decreases-add_statement : goal.decreases-add_statement
decreases-add_statement l = 3 * written (stmt_then l.stmt.now done)

abbrev pub decreases-add_branches : goal.decreases-add_branches
decreases-add_branches l = 3 * (written (body_of l.yes.now) + written (body_of l.no.now)) + 2
