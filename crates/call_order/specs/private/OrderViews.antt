-- What the private functions answer about the order of a plan's methods.
use Rattle.std.specs.Prelude.{◌≡◌, ℕ, List, length, Result, Ok, Err}
use Rattle.std.proofs.Common.{Vec, Global}
use Rattle.pap_tree.specs.Flowchart.{Flowchart}
use Rattle.pap_types.specs.Limits.{longest_chain}
use Rattle.call_order.specs.declared.fault.OrderFault.{OrderFault}
use Rattle.call_order.specs.Graphs.{Graph, graph_of}
use Rattle.call_order.specs.Chains.{BeginsMore}
use Rattle.call_order.specs.Orders.{IsOrder, IsAcyclic, HasShortChains}
use Rattle.call_order.specs.Faults.{IsFirstBelow}
use Rattle.call_order.specs.OrderClauses.{OrderAnswer}

-- an order of the methods, however long the plan is
pub record IsSorted (f : Flowchart) (order : List ℕ) : Type 0 where
  pub acyclic : IsAcyclic f
  pub chains : HasShortChains f
  pub ordered : IsOrder (graph_of f.methods) order

abbrev pub ChainsAnswer : Flowchart → Result (Vec ℕ Global) OrderFault → Type 0
ChainsAnswer f (Ok order) = IsSorted f order.items
ChainsAnswer f (Err fault) = OrderAnswer f (Err fault)

-- a graph is a plan's, and its first method that begins a chain of more than 64 has a number
pub record IsLongFault (f : Flowchart) (g : Graph) (first : ℕ) : Type 0 where
  pub graph : g ≡ graph_of f.methods
  pub long : IsFirstBelow (BeginsMore g longest_chain) (length g) first
