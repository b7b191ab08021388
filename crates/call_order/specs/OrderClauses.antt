-- What `order_methods` answers: an order, or why there is none. Memory may run out at any plan.
use Rattle.std.specs.Prelude.{ℕ, Result, Ok, Err, ⊤}
use Rattle.std.proofs.Common.{Vec, Global}
use Rattle.pap_tree.specs.Flowchart.{Flowchart}
use Rattle.call_order.specs.declared.fault.OrderFault.{OrderFault}
use Rattle.call_order.specs.declared.fault.OrderFault.TheVariants.{Cycle, Chain, TooLong, Memory}
use Rattle.call_order.specs.Orders.{IsOrdered}
use Rattle.call_order.specs.Faults.{HasOrderFault}

-- an order of the plan's methods, or the reason for which there is none
abbrev pub OrderAnswer : Flowchart → Result (Vec ℕ Global) OrderFault → Type 0
OrderAnswer f (Ok order) = IsOrdered f order.items
OrderAnswer f (Err (Cycle name)) = HasOrderFault f (Cycle name)
OrderAnswer f (Err (Chain name)) = HasOrderFault f (Chain name)
OrderAnswer f (Err (TooLong count)) = HasOrderFault f (TooLong count)
OrderAnswer f (Err (Memory e)) = ⊤
