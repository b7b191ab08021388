-- What a search for a node's number finds.
use Rattle.std.specs.Prelude.{◌≡◌, ℕ, ◌+◌, ◌-◌, ◌<◌, ◌≤◌, ◌⊎◌, Some}
use Rattle.pap_tree.specs.Term.{Term, term_of}
use Rattle.pap_tree.specs.Numbering.{nodes, node_of}
use Rattle.pap_tree.specs.declared.numbering.Search.{Search}
use Rattle.pap_tree.specs.declared.numbering.Search.TheVariants.{Found, Left}

-- the node of the number in a term
abbrev pub HasNode : Term → ℕ → Term → Type 0
HasNode t n x = (n < nodes t) × (node_of t n ≡ Some x)

-- the node of the number, or how many numbers are left behind those of the term
abbrev pub IsSearched : Term → ℕ → Search → Type 0
IsSearched t n (Found node) = HasNode t n (term_of node.now)
IsSearched t n (Left m) = n ≡ nodes t + m

-- the same of two terms, one after the other
abbrev pub IsSearchedInTwo : Term → Term → ℕ → Search → Type 0
IsSearchedInTwo a b n (Found node) =
    HasNode a n (term_of node.now) ⊎ ((nodes a ≤ n) × HasNode b (n - nodes a) (term_of node.now))
IsSearchedInTwo a b n (Left m) = n ≡ nodes a + nodes b + m

-- the operation itself where no number is left, else one number less
abbrev pub IsPast : Term → ℕ → Search → Type 0
IsPast t left (Found node) = (left ≡ 0) × (t ≡ term_of node.now)
IsPast t left (Left m) = left ≡ m + 1
