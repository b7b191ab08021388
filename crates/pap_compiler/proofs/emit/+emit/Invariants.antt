use Rattle.std.proofs.Common.{◌+◌, ◌*◌}
use Rattle.pap_tree.specs.Term.{term_of}
use Rattle.pap_tree.specs.Numbering.{nodes}
use Rattle.pap_compiler.proofs.emit.+emit.Given as goal

abbrev pub decreases-emit_term : goal.decreases-emit_term
decreases-emit_term l = 3 * nodes (term_of l.e.now)

abbrev pub decreases-emit_one : goal.decreases-emit_one
decreases-emit_one l = 3 * nodes (term_of l.operand.now) + 1

abbrev pub decreases-emit_value_of : goal.decreases-emit_value_of
decreases-emit_value_of l = 3 * nodes (term_of l.operand.now) + 1

abbrev pub decreases-emit_operator : goal.decreases-emit_operator
decreases-emit_operator l = 3 * (nodes (term_of l.left.now) + nodes (term_of l.right.now)) + 2

abbrev pub decreases-emit_two : goal.decreases-emit_two
decreases-emit_two l = 3 * (nodes (term_of l.left.now) + nodes (term_of l.right.now)) + 1

abbrev pub decreases-emit_joined : goal.decreases-emit_joined
decreases-emit_joined l = 3 * (nodes (term_of l.left.now) + nodes (term_of l.right.now)) + 1

abbrev pub decreases-emit_choice : goal.decreases-emit_choice
decreases-emit_choice l = 3 * (nodes (term_of l.test.now) + nodes (term_of l.first.now) + nodes (term_of l.second.now)) + 1
