-- What is found of a plan's methods, and what follows.
use Rattle.std.proofs.Common.{◌≡◌, ℕ, ◌<◌, ◌≤◌, Option, None, List, length, ap, ◌∙◌, refl, sym, subst, arith}
use Rattle.std.specs.Prelude.{All, slice_index, min}
use Rattle.std.proofs.lemmas.List.Elements.{All-weaker}
use Rattle.pap_tree.specs.Flowchart.{Flowchart}
use Rattle.call_order.specs.Graphs.{Graph, Content, content_of, graph_of, executed}
use Rattle.call_order.specs.Expanded.{expanded_of, expanded_in}
use Rattle.call_order.specs.Orders.{IsOrdered}
use Rattle.call_order.specs.Faults.{IsFirstBelow, last_count, IsTooLong}
use Rattle.call_order.specs.private.LevelViews.{level_at, AreLevels, HaveLevels, IsByLevel}
use Rattle.call_order.specs.private.LengthViews.{length_of, length_with, AreLengths}
use Rattle.call_order.specs.private.OrderViews.{IsLongFault, IsSorted}
use Rattle.call_order.proofs.OrderLemmas.{is_order, counted_there, not_long, not_cyclic, first_chain}
use Rattle.call_order.proofs.LengthLemmas.{min_sum}
use Rattle.call_order.proofs.WholeLemmas.{known, body_known, length_graph, expanded_sum, expanded_is}

module _ (f : Flowchart) where
  pub long_fault : (g : Graph) (ls : List (Option ℕ)) (i : ℕ) → g ≡ graph_of f.methods → AreLevels g 64 ls → IsFirstBelow (λ k. level_at ls k ≡ None) (length ls) i → IsLongFault f g i
  long_fault g ls i e levels first = record { graph = e; long = first_chain g ls i levels first }

  below : (i : ℕ) → i < length f.methods → i < length (graph_of f.methods)
  below i lt = subst (λ n. i < n) (sym (length_graph f.methods)) lt

  pub sorted : (g : Graph) (ls : List (Option ℕ)) (order : List ℕ) → g ≡ graph_of f.methods → AreLevels g 64 ls → HaveLevels ls → IsByLevel ls order → IsSorted f order
  sorted g ls order e levels have by =
      let here = subst (λ x. AreLevels x 64 ls) e levels in
      let h = graph_of f.methods in
      record {
        acyclic = λ i lt. not_cyclic h ls here have i (below i lt);
        chains = λ i lt. not_long h ls here have i (below i lt);
        ordered = is_order h ls here have order (known f.methods h refl) by;
      }

  module _ (order counts : List ℕ) (s : IsSorted f order) (lengths : AreLengths (graph_of f.methods) order counts) where
    pub main_known : (main : Content) (cs : List ℕ) → main ≡ content_of f.methods f.main → cs ≡ counts → All (λ j. j < length cs) main.methods
    main_known main cs is same =
        let all : length f.methods ≡ length cs = sym (ap length same ∙ lengths.all ∙ length_graph f.methods) in
        let known = subst (λ n. All (λ j. j < n) (executed f.methods f.main)) all (body_known f.methods f.main) in
        subst (λ (c : Content). All (λ j. j < length cs) c.methods) (sym is) known

    count_at : (j : ℕ) → j < length f.methods → slice_index counts j ≡ min (length_of (graph_of f.methods) 64 j) last_count
    count_at j lt = lengths.each j (counted_there j order (s.ordered.once j (below j lt))) 64 (s.chains j lt)

    pub counted : (v : ℕ) (main : Content) (cs : List ℕ) → main ≡ content_of f.methods f.main → cs ≡ counts → v ≡ min (length_with main (slice_index cs)) last_count → v ≡ min (expanded_in f) last_count
    counted v main cs is same e =
        let g = graph_of f.methods in
        e
        ∙ ap (λ l. min (length_with main (slice_index l)) last_count) same
        ∙ ap (λ c. min (length_with c (slice_index counts)) last_count) is
        ∙ min_sum last_count (slice_index counts) (length_of g 64) (content_of f.methods f.main).methods (content_of f.methods f.main).statements
        (All-weaker (λ j. j < length f.methods) (λ j. slice_index counts j ≡ min (length_of g 64 j) last_count) count_at (executed f.methods f.main) (body_known f.methods f.main))
        ∙ ap (λ x. min x last_count) (sym (expanded_sum f.methods (expanded_of f.methods 64) (length_of g 64) (expanded_is f.methods 64) f.main))

  pub too_long : (order : List ℕ) (v : ℕ) → IsSorted f order → v ≡ min (expanded_in f) last_count → 200000 < v → IsTooLong f v
  too_long order v s c long = record { acyclic = s.acyclic; chains = s.chains; long = past (expanded_in f) v c long; counted = sym c }
    where
      past : (x y : ℕ) → y ≡ min x last_count → 200000 < y → 200000 < x
      past x y p q = omega arith

  pub in_order : (order : List ℕ) (v : ℕ) → IsSorted f order → v ≡ min (expanded_in f) last_count → v ≤ 200000 → IsOrdered f order
  in_order order v s c short = record { acyclic = s.acyclic; chains = s.chains; short = within (expanded_in f) v c short; ordered = s.ordered }
    where
      within : (x y : ℕ) → y ≡ min x last_count → y ≤ 200000 → x ≤ 200000
      within x y p q = omega arith
