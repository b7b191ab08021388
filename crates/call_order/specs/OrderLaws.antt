-- A plan has an order or a fault, never both, and one fault; and an ordered plan has a small bound.
use Rattle.std.specs.Prelude.{◌≡◌, ℕ, ◌≤◌, ◌⊎◌, List}
use Rattle.pap_tree.specs.Flowchart.{Flowchart}
use Rattle.pap_types.specs.Counts.{IsWithinCounts}
use Rattle.pap_types.specs.Limits.{most_steps}
use Rattle.pap_types.specs.Meaning.{bound_of}
use Rattle.call_order.specs.declared.fault.OrderFault.{OrderFault}
use Rattle.call_order.specs.Orders.{IsOrdered}
use Rattle.call_order.specs.Faults.{HasOrderFault}

-- some list of numbers is an order of the plan's methods
abbrev pub HasOrder : Flowchart → Type 0
HasOrder f = (order : List ℕ) × IsOrdered f order

-- there is a reason for which the plan is refused
abbrev pub HasFault : Flowchart → Type 0
HasFault f = (fault : OrderFault) × HasOrderFault f fault

-- each plan has an order or a fault; none has both, and none has two faults
pub record OrdersHaveOneAnswer : Type 0 where
  pub some : (f : Flowchart) → HasOrder f ⊎ HasFault f
  pub never_both : (f : Flowchart) → HasOrder f → HasFault f → ⊥
  pub one_fault : (f : Flowchart) (a b : OrderFault) → HasOrderFault f a → HasOrderFault f b → a ≡ b

-- no run of an ordered plan takes more steps
abbrev pub HaveSmallBounds : Type 0
HaveSmallBounds =
    (f : Flowchart) (order : List ℕ) → IsWithinCounts f → IsOrdered f order → bound_of f ≤ most_steps
