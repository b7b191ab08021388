-- What is executed stands before in the order.
use Rattle.std.proofs.Common.{◌≡◌, ℕ, zero, suc, ◌<◌, List, [], ◌∷◌, length, take, ap, sym, subst, Some}
use Rattle.std.specs.Prelude.{All, Contains, slice_get, slice_index}
use Rattle.std.proofs.lemmas.List.Elements.{All-head, All-tail}
use Rattle.pap_tree.specs.Flowchart.{Routine, Flowchart}
use Rattle.pap_types.specs.Checks.{IsWellTyped}
use Rattle.call_order.specs.Graphs.{graph_of, graph_within, content_of, executed}
use Rattle.call_order.specs.Chains.{Executes, content_at}
use Rattle.call_order.specs.Orders.{IsOrdered}
use Rattle.call_order.specs.Executed.{EachExecuted, StandsIn, CallsStand}
use Rattle.call_order.proofs.Numbers.{method_number, number_below}
use Rattle.call_order.proofs.Executed.{IsNamed, are_named}
use Rattle.call_order.proofs.Closed.{by_numbers}
use Rattle.call_order.proofs.OrderLemmas.{counted_there}
use Rattle.call_order.proofs.WholeLemmas.{length_graph}

content_there : (all ms : List Routine) (i : ℕ) (m : Routine) → slice_get ms i ≡ Some m → content_at (graph_within all ms) i ≡ content_of all m.body
content_there all [] i m is = absurd (cc)
content_there all (r ∷ ms) zero m is = let same : r ≡ m = cc in ap (λ q. content_of all q.body) same
content_there all (r ∷ ms) (suc i) m is = content_there all ms i m is

all_there : (P : Routine → Type 0) (ms : List Routine) (i : ℕ) (m : Routine) → All P ms → slice_get ms i ≡ Some m → P m
all_there P [] i m h is = absurd (cc)
all_there P (r ∷ ms) zero m h is = let same : r ≡ m = cc in subst P same (All-head P r ms h)
all_there P (r ∷ ms) (suc i) m h is = all_there P ms i m (All-tail P r ms h) is

pub calls_stand : (f : Flowchart) (order : List ℕ) → IsWellTyped f → IsOrdered f order → CallsStand f order
calls_stand f order typed h =
    let names = are_named f typed in
    record {
      before = λ k lt m is.
          let named = all_there (λ r. EachExecuted (IsNamed f.methods) r.body) f.methods (slice_index order k) m names.each is in
          by_numbers f.methods (StandsIn f (take k order)) m.body named (λ y j n at c. (j, at, h.ordered.after k lt j (executes (slice_index order k) j m is c)));
      main = by_numbers f.methods (StandsIn f order) f.main names.main (λ y j n at c. (j, at, counted_there j order (h.ordered.once j (below y j at))));
    }
  where
    executes : (i j : ℕ) (m : Routine) → slice_get f.methods i ≡ Some m → Contains (executed f.methods m.body) j → Executes (graph_of f.methods) i j
    executes i j m is c = subst (λ q. Contains q.methods j) (sym (content_there f.methods f.methods i m is)) c

    below : (y : List ℕ) (j : ℕ) → method_number f.methods y ≡ Some j → j < length (graph_of f.methods)
    below y j at = subst (λ n. j < n) (sym (length_graph f.methods)) (number_below f.methods y j at)
