-- The names that a list of statements executes.
use Rattle.std.specs.Prelude.{◌≡◌, ℕ, ◌<◌, List, length, take, Contains, slice_get, slice_index, Some, ⊤}
use Rattle.pap_tree.specs.Flowchart.{Body, done, eval, branch, execute, Routine, Flowchart}
use Rattle.pap_types.specs.Scopes.{number_of}
use Rattle.pap_types.specs.Routines.{method_names}
use Rattle.pap_types.specs.Checks.{IsWellTyped}
use Rattle.call_order.specs.Orders.{IsOrdered}

-- P holds of each name that is executed
abbrev pub EachExecuted : (List ℕ → Type 0) → Body → Type 0
EachExecuted P done = ⊤
EachExecuted P (eval x e rest) = EachExecuted P rest
EachExecuted P (branch t a b rest) = EachExecuted P a × EachExecuted P b × EachExecuted P rest
EachExecuted P (execute m rest) = P m × EachExecuted P rest

-- the name is that of a method whose number is among these
abbrev pub StandsIn : Flowchart → List ℕ → List ℕ → Type 0
StandsIn f numbers m = (i : ℕ) × (number_of (method_names f.methods) m ≡ Some i) × Contains numbers i

-- in an ordered plan, what a method executes stands before it in the order, and what MAIN executes stands in it
pub record CallsStand (f : Flowchart) (order : List ℕ) : Type 0 where
  pub before : (k : ℕ) → k < length order → (m : Routine) → slice_get f.methods (slice_index order k) ≡ Some m
      → EachExecuted (StandsIn f (take k order)) m.body
  pub main : EachExecuted (StandsIn f order) f.main

-- in each order of a well-typed plan what a method executes stands before it
abbrev pub OrdersHaveCalls : Type 0
OrdersHaveCalls = (f : Flowchart) (order : List ℕ) → IsWellTyped f → IsOrdered f order → CallsStand f order
