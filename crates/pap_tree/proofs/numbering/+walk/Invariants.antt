use Rattle.std.proofs.Common.{◌*◌, ◌+◌}
use Rattle.pap_tree.specs.Term.{term_of}
use Rattle.pap_tree.specs.Numbering.{nodes}
use Rattle.pap_tree.proofs.numbering.+walk.Given as goal

abbrev pub decreases-walk : goal.decreases-walk
decreases-walk l = 2 * nodes (term_of l.e.now)

abbrev pub decreases-walk_two : goal.decreases-walk_two
decreases-walk_two l = 2 * (nodes (term_of l.first.now) + nodes (term_of l.second.now)) + 1
