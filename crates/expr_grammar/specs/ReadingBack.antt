-- The trees that texts have.
use Rattle.std.specs.Prelude.{◌≡◌, ℕ, Some, List}
use Rattle.pap_tree.specs.Term.{Term}
use Rattle.pap_tree.specs.Numbering.{node_of}
use Rattle.pap_tree.specs.Expressions.{IsTest, IsAssignment}

-- the tree stands in some text: as a test, as the right side of an assignment, or as a node of a tree that does
pub data IsInText : Term → Type 0 where
  a_test : {bytes : List ℕ} {x : Term} → IsTest bytes x → IsInText x
  a_right_side : {bytes name : List ℕ} {x : Term} → IsAssignment bytes name x → IsInText x
  a_node : {x y : Term} (n : ℕ) → IsInText x → node_of x n ≡ Some y → IsInText y
