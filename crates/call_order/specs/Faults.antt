-- Why a plan's methods have no order, or why the plan is too long: the first reason of these that there is.
use Rattle.std.specs.Prelude.{◌≡◌, ℕ, ◌<◌, ◌^◌, min, List, length, slice_get, Some}
use Rattle.pap_tree.specs.Flowchart.{Flowchart}
use Rattle.pap_types.specs.Routines.{method_names}
use Rattle.pap_types.specs.Limits.{longest_chain}
use Rattle.call_order.specs.declared.fault.OrderFault.{OrderFault}
use Rattle.call_order.specs.declared.fault.OrderFault.TheVariants.{Cycle, Chain, TooLong, Memory}
use Rattle.call_order.specs.Graphs.{graph_of}
use Rattle.call_order.specs.Chains.{ReachesItself, BeginsMore}
use Rattle.call_order.specs.Expanded.{expanded_in}
use Rattle.call_order.specs.Orders.{IsAcyclic, HasShortChains, most_expanded}

-- the first number below n of which P holds
pub record IsFirstBelow (P : ℕ → Type 0) (n i : ℕ) : Type 0 where
  pub below : i < n
  pub holds : P i
  pub first : (k : ℕ) → k < i → ¬ (P k)

-- the first declared method of which P holds has the name
abbrev pub IsFirstMethod : Flowchart → (ℕ → Type 0) → List ℕ → Type 0
IsFirstMethod f P name =
    (i : ℕ) × IsFirstBelow P (length f.methods) i × (slice_get (method_names f.methods) i ≡ Some name)

-- no method reaches itself, and the first that begins a chain of more than 64
pub record HasLongChain (f : Flowchart) (name : List ℕ) : Type 0 where
  pub acyclic : IsAcyclic f
  pub first : IsFirstMethod f (BeginsMore (graph_of f.methods) longest_chain) name

-- where a count of expanded statements stops
abbrev pub last_count : ℕ
last_count = 2 ^ 63

-- the methods can be ordered, and MAIN has too many expanded statements
pub record IsTooLong (f : Flowchart) (count : ℕ) : Type 0 where
  pub acyclic : IsAcyclic f
  pub chains : HasShortChains f
  pub long : most_expanded < expanded_in f
  pub counted : min (expanded_in f) last_count ≡ count

-- why a plan's methods have no order, or why the plan is too long; memory that ran out is none of these
-- reasons
abbrev pub HasOrderFault : Flowchart → OrderFault → Type 0
HasOrderFault f (Cycle name) = IsFirstMethod f (ReachesItself (graph_of f.methods)) name
HasOrderFault f (Chain name) = HasLongChain f name
HasOrderFault f (TooLong count) = IsTooLong f count
HasOrderFault f (Memory e) = ⊥
