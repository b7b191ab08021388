use Rattle.pap_tree.specs.Term.{term_of}
use Rattle.pap_tree.specs.Numbering.{nodes}
use Rattle.pap_types.proofs.sizes.+count.Given as goal

abbrev pub decreases-node_count : goal.decreases-node_count
decreases-node_count l = nodes (term_of l.e.now)
