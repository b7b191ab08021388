use Rattle.std.proofs.Common.{◌*◌, ◌+◌}
use Rattle.pap_tree.specs.Term.{term_of}
use Rattle.pap_tree.specs.Numbering.{nodes}
use Rattle.month_trace.proofs.expressions.+value.Given as goal

abbrev pub decreases-value_of : goal.decreases-value_of
decreases-value_of l = 2 * nodes (term_of l.e.now)

abbrev pub decreases-value_of_item : goal.decreases-value_of_item
decreases-value_of_item l = 2 * nodes (term_of l.index.now) + 1

abbrev pub decreases-value_of_one : goal.decreases-value_of_one
decreases-value_of_one l = 2 * nodes (term_of l.operand.now) + 1

abbrev pub decreases-value_of_two : goal.decreases-value_of_two
decreases-value_of_two l = 2 * (nodes (term_of l.left.now) + nodes (term_of l.right.now)) + 1

abbrev pub decreases-value_of_choice : goal.decreases-value_of_choice
decreases-value_of_choice l =
    2 * (nodes (term_of l.test.now) + nodes (term_of l.first.now) + nodes (term_of l.second.now)) + 1
