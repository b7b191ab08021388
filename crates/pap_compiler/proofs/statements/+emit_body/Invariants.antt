use Rattle.std.proofs.Common.{◌+◌, ◌*◌}
use Rattle.pap_tree.specs.Flowchart.{body_of, stmt_then, done}
use Rattle.pap_compiler.specs.CodeDecisions.{body_length}
use Rattle.pap_compiler.proofs.StatementLemmas.{IsPartly}
use Rattle.pap_compiler.proofs.statements.+emit_body.Given as goal

abbrev pub decreases-emit_body : goal.decreases-emit_body
decreases-emit_body l = 4 * body_length (body_of l.body.now) + 1

abbrev pub decreases-emit_stmt : goal.decreases-emit_stmt
decreases-emit_stmt l = 4 * body_length (stmt_then l.s.now done)

abbrev pub decreases-emit_if : goal.decreases-emit_if
decreases-emit_if l = 4 * (body_length (body_of l.yes.now) + body_length (body_of l.no.now)) + 2

abbrev pub invariant-emit_body-loop-s : goal.invariant-emit_body-loop-s
invariant-emit_body-loop-s l = IsPartly l.names l.body l.s-index l.initial.code.items l.code.items
