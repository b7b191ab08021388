use Rattle.std.proofs.Common.{◌+◌, ◌*◌, drop}
use Rattle.pap_tree.specs.Flowchart.{body_of, stmt_then, done}
use Rattle.pap_tree.specs.Statements.{written}
use Rattle.plan_answers.specs.private.PlaceViews.{GoesOn}
use Rattle.plan_answers.proofs.places.+search_body.Given as goal

abbrev pub decreases-search_body : goal.decreases-search_body
decreases-search_body l = 2 * written (body_of l.body.now) + 1

abbrev pub decreases-search_statement : goal.decreases-search_statement
decreases-search_statement l = 2 * written (stmt_then l.statement.now done)

abbrev pub invariant-search_body-loop-statement : goal.invariant-search_body-loop-statement
invariant-search_body-loop-statement l =
    GoesOn (body_of l.body) (body_of (drop l.statement-index l.body)) l.number l.left
