-- Numbers behind a term's own are those of none of its nodes.
use Rattle.std.proofs.Common.{◌≡◌, ℕ, ◌≤◌, None, arith}
use Rattle.std.proofs.lemmas.Bool.Decides.{nat_tests}
use Rattle.pap_tree.specs.Term.{Term, leaf, item, one, two, choice}
use Rattle.pap_tree.specs.Numbering.{nodes, node_of}

pub node_past : (t : Term) (n : ℕ) → nodes t ≤ n → node_of t n ≡ None
node_past (leaf l) n h = grind (arith, nat_tests)
node_past (item x a) n h = grind (arith, nat_tests)
node_past (one op a) n h = grind (arith, nat_tests)
node_past (two op a b) n h = grind (arith, nat_tests)
node_past (choice c a b) n h = grind (arith, nat_tests)
