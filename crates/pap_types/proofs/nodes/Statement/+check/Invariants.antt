use Rattle.std.proofs.Common.{◌*◌, ◌+◌}
use Rattle.pap_tree.specs.Term.{term_of}
use Rattle.pap_tree.specs.Numbering.{nodes}
use Rattle.pap_types.proofs.nodes.Statement.+check.Given as goal

abbrev pub decreases-check : goal.decreases-check
decreases-check l = 3 * nodes (term_of l.e.now)

abbrev pub decreases-check_two : goal.decreases-check_two
decreases-check_two l = 3 * (nodes (term_of l.left.now) + nodes (term_of l.right.now)) + 1

abbrev pub decreases-check_value_of : goal.decreases-check_value_of
decreases-check_value_of l = 3 * nodes (term_of l.operand.now) + 2

abbrev pub decreases-check_scaled : goal.decreases-check_scaled
decreases-check_scaled l = 3 * nodes (term_of l.operand.now) + 2

abbrev pub decreases-check_new : goal.decreases-check_new
decreases-check_new l = 3 * nodes (term_of l.operand.now) + 2

abbrev pub decreases-check_unary : goal.decreases-check_unary
decreases-check_unary l = 3 * nodes (term_of l.operand.now) + 2

abbrev pub decreases-check_set_scale : goal.decreases-check_set_scale
decreases-check_set_scale l = 3 * nodes (term_of l.operand.now) + 2

abbrev pub decreases-check_operator : goal.decreases-check_operator
decreases-check_operator l = 3 * (nodes (term_of l.left.now) + nodes (term_of l.right.now)) + 2

abbrev pub decreases-check_call : goal.decreases-check_call
decreases-check_call l = 3 * (nodes (term_of l.left.now) + nodes (term_of l.right.now)) + 2

abbrev pub decreases-check_divide : goal.decreases-check_divide
decreases-check_divide l = 3 * (nodes (term_of l.left.now) + nodes (term_of l.right.now)) + 2

abbrev pub decreases-check_choice : goal.decreases-check_choice
decreases-check_choice l = 3 * (nodes (term_of l.test.now) + nodes (term_of l.first.now) + nodes (term_of l.second.now)) + 2

abbrev pub decreases-check_item : goal.decreases-check_item
decreases-check_item l = 3 * nodes (term_of l.index.now) + 2
