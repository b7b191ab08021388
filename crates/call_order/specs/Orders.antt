-- An order of a plan's methods, and when there is one.
use Rattle.std.specs.Prelude.{◌≡◌, ℕ, ◌<◌, ◌≤◌, ◌==◌, List, length, take, All, Contains, count_by, slice_index}
use Rattle.pap_tree.specs.Flowchart.{Flowchart}
use Rattle.pap_types.specs.Limits.{longest_chain}
use Rattle.call_order.specs.Graphs.{Graph, graph_of}
use Rattle.call_order.specs.Chains.{Executes, ReachesItself, BeginsMore}
use Rattle.call_order.specs.Expanded.{expanded_in}

-- each method once, after every method that it executes
pub record IsOrder (g : Graph) (order : List ℕ) : Type 0 where
  pub known : All (λ i. i < length g) order
  pub once : (i : ℕ) → i < length g → count_by (λ j. j == i) order ≡ 1
  pub after : (k : ℕ) → k < length order → (j : ℕ) → Executes g (slice_index order k) j → Contains (take k order) j

-- P holds of no number below n
abbrev pub HasNone : (ℕ → Type 0) → ℕ → Type 0
HasNone P n = (i : ℕ) → i < n → ¬ (P i)

-- no method reaches itself
abbrev pub IsAcyclic : Flowchart → Type 0
IsAcyclic f = HasNone (ReachesItself (graph_of f.methods)) (length f.methods)

-- no method begins a chain of more than 64
abbrev pub HasShortChains : Flowchart → Type 0
HasShortChains f = HasNone (BeginsMore (graph_of f.methods) longest_chain) (length f.methods)

-- the greatest number of expanded statements of MAIN
abbrev pub most_expanded : ℕ
most_expanded = 200000

-- the plan's methods can be ordered, and this is an order of them
pub record IsOrdered (f : Flowchart) (order : List ℕ) : Type 0 where
  pub acyclic : IsAcyclic f
  pub chains : HasShortChains f
  pub short : expanded_in f ≤ most_expanded
  pub ordered : IsOrder (graph_of f.methods) order
