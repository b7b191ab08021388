use Rattle.std.proofs.Common.{◌*◌, ◌+◌}
use Rattle.pap_tree.specs.Term.{term_of}
use Rattle.pap_tree.specs.Numbering.{nodes}
use Rattle.interval_analysis.proofs.expressions.Walk.+walk.Given as goal

abbrev pub decreases-range_of : goal.decreases-range_of
decreases-range_of l = 8 * nodes (term_of l.e.now)

abbrev pub decreases-range_where : goal.decreases-range_where
decreases-range_where l = 8 * nodes (term_of l.e.now) + 1

abbrev pub decreases-test : goal.decreases-test
decreases-test l = 8 * nodes (term_of l.e.now)

abbrev pub decreases-test_unary : goal.decreases-test_unary
decreases-test_unary l = 8 * nodes (term_of l.operand.now) + 2

abbrev pub decreases-follow_behind : goal.decreases-follow_behind
decreases-follow_behind l = 8 * nodes (term_of l.e.now) + 4

abbrev pub decreases-follow : goal.decreases-follow
decreases-follow l = 8 * nodes (term_of l.e.now) + 2

abbrev pub decreases-follow_part : goal.decreases-follow_part
decreases-follow_part l = 8 * nodes (term_of l.e.now) + 1

abbrev pub decreases-operands : goal.decreases-operands
decreases-operands l = 8 * (nodes (term_of l.left.now) + nodes (term_of l.right.now)) + 1

abbrev pub decreases-test_operator : goal.decreases-test_operator
decreases-test_operator l = 8 * (nodes (term_of l.left.now) + nodes (term_of l.right.now)) + 7

abbrev pub decreases-test_sequence : goal.decreases-test_sequence
decreases-test_sequence l = 8 * (nodes (term_of l.left.now) + nodes (term_of l.right.now)) + 6

abbrev pub decreases-follow_both : goal.decreases-follow_both
decreases-follow_both l = 8 * (nodes (term_of l.left.now) + nodes (term_of l.right.now)) + 5

abbrev pub decreases-test_comparison : goal.decreases-test_comparison
decreases-test_comparison l = 8 * (nodes (term_of l.left.now) + nodes (term_of l.right.now)) + 4

abbrev pub decreases-follow_comparison : goal.decreases-follow_comparison
decreases-follow_comparison l = 8 * (nodes (term_of l.left.now) + nodes (term_of l.right.now)) + 4

abbrev pub decreases-compare : goal.decreases-compare
decreases-compare l = 8 * (nodes (term_of l.left.now) + nodes (term_of l.right.now)) + 3

abbrev pub decreases-range_of_parts : goal.decreases-range_of_parts
decreases-range_of_parts l = 8 * (nodes (term_of l.first.now) + nodes (term_of l.second.now)) + 3

abbrev pub decreases-range_of_choice : goal.decreases-range_of_choice
decreases-range_of_choice l =
    8 * (nodes (term_of l.test.now) + nodes (term_of l.first.now) + nodes (term_of l.second.now)) + 4
