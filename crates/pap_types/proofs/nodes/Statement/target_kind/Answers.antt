use Rattle.std.proofs.Common.{arith}
use Rattle.pap_tree.specs.Term.{term_of}
use Rattle.pap_types.proofs.StatementLemmas.{nodes_some}
use Rattle.pap_types.proofs.nodes.Statement.target_kind.Goals as goal

pub overflow_sub-node_count : goal.overflow_sub-node_count
overflow_sub-node_count c = let some = nodes_some (term_of c.args.value.now) in omega arith
