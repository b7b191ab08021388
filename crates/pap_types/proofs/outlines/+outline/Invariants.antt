use Rattle.std.proofs.Common.{◌*◌, ◌+◌}
use Rattle.pap_tree.specs.Term.{term_of}
use Rattle.pap_tree.specs.Numbering.{nodes}
use Rattle.pap_types.proofs.outlines.+outline.Given as goal

abbrev pub decreases-outline_of : goal.decreases-outline_of
decreases-outline_of l = 3 * nodes (term_of l.e.now)

abbrev pub decreases-outlines_of : goal.decreases-outlines_of
decreases-outlines_of l = 3 * (nodes (term_of l.left.now) + nodes (term_of l.right.now)) + 1

abbrev pub decreases-outline_of_choice : goal.decreases-outline_of_choice
decreases-outline_of_choice l =
    3 * (nodes (term_of l.test.now) + nodes (term_of l.first.now) + nodes (term_of l.second.now)) + 2
