-- The laws of orders that other crates may cite.
-- the bound on chains leaves nothing out; two ways to show the like of other recursions
pub use Rattle.call_order.proofs.Closed.{chains_close, by_execution, by_bounds}
-- an order or a fault, never both, and one fault
pub use Rattle.call_order.proofs.AnswerLemmas.{some, never_both, one_fault}
-- an ordered plan has a small bound
pub use Rattle.call_order.proofs.BoundLemmas.{bound_small}
-- what a method executes stands before it in an order
pub use Rattle.call_order.proofs.Standing.{calls_stand}
