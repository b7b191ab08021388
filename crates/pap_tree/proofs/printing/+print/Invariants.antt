use Rattle.std.proofs.Common.{◌*◌, ◌+◌}
use Rattle.pap_tree.specs.Term.{term_of}
use Rattle.pap_tree.specs.Numbering.{nodes}
use Rattle.pap_tree.proofs.printing.+print.Given as goal

abbrev pub decreases-print : goal.decreases-print
decreases-print l = 4 * nodes (term_of l.e.now)

abbrev pub decreases-print_bracketed : goal.decreases-print_bracketed
decreases-print_bracketed l = 4 * nodes (term_of l.e.now) + 1

abbrev pub decreases-print_at : goal.decreases-print_at
decreases-print_at l = 4 * nodes (term_of l.e.now) + 2

abbrev pub decreases-print_choice : goal.decreases-print_choice
decreases-print_choice l = 4 * (nodes (term_of l.test.now) + nodes (term_of l.first.now) + nodes (term_of l.second.now)) + 3

abbrev pub decreases-print_operator : goal.decreases-print_operator
decreases-print_operator l = 4 * (nodes (term_of l.left.now) + nodes (term_of l.right.now)) + 3

abbrev pub decreases-print_call : goal.decreases-print_call
decreases-print_call l = 4 * (nodes (term_of l.receiver.now) + nodes (term_of l.argument.now)) + 3

abbrev pub decreases-print_divide : goal.decreases-print_divide
decreases-print_divide l = 4 * (nodes (term_of l.receiver.now) + nodes (term_of l.divisor.now)) + 3

abbrev pub decreases-print_set_scale : goal.decreases-print_set_scale
decreases-print_set_scale l = 4 * nodes (term_of l.receiver.now) + 3

abbrev pub decreases-print_value_of : goal.decreases-print_value_of
decreases-print_value_of l = 4 * nodes (term_of l.operand.now) + 3

abbrev pub decreases-print_scaled : goal.decreases-print_scaled
decreases-print_scaled l = 4 * nodes (term_of l.operand.now) + 3

abbrev pub decreases-print_unary : goal.decreases-print_unary
decreases-print_unary l = 4 * nodes (term_of l.operand.now) + 3

abbrev pub decreases-print_minus : goal.decreases-print_minus
decreases-print_minus l = 4 * nodes (term_of l.operand.now) + 2

abbrev pub decreases-print_new : goal.decreases-print_new
decreases-print_new l = 4 * nodes (term_of l.operand.now) + 3
