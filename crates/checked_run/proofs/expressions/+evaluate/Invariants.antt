use Rattle.std.proofs.Common.{◌*◌, ◌+◌}
use Rattle.pap_tree.specs.Term.{term_of}
use Rattle.pap_tree.specs.Numbering.{nodes}
use Rattle.checked_run.proofs.expressions.+evaluate.Given as goal

abbrev pub decreases-evaluate : goal.decreases-evaluate
decreases-evaluate l = 2 * nodes (term_of l.e.now)

abbrev pub decreases-evaluate_item : goal.decreases-evaluate_item
decreases-evaluate_item l = 2 * nodes (term_of l.index.now) + 1

abbrev pub decreases-evaluate_one : goal.decreases-evaluate_one
decreases-evaluate_one l = 2 * nodes (term_of l.operand.now) + 1

abbrev pub decreases-evaluate_two : goal.decreases-evaluate_two
decreases-evaluate_two l = 2 * (nodes (term_of l.left.now) + nodes (term_of l.right.now)) + 1

abbrev pub decreases-evaluate_choice : goal.decreases-evaluate_choice
decreases-evaluate_choice l =
    2 * (nodes (term_of l.test.now) + nodes (term_of l.first.now) + nodes (term_of l.second.now)) + 1
