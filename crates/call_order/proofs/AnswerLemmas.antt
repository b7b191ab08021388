-- An order or a fault, never both, and one fault.
use Rattle.std.proofs.Common.{◌≡◌, ℕ, zero, suc, ◌<◌, ◌⊎◌, inl, inr, List, [], ◌∷◌, length, ap, ◌∙◌, refl, sym, subst, Some, arith}
use Rattle.std.specs.Prelude.{min, slice_get}
use Rattle.std.proofs.lemmas.Bool.{cases_lt}
use Rattle.pap_tree.specs.Flowchart.{Flowchart, Routine}
use Rattle.pap_types.specs.Routines.{method_names}
use Rattle.call_order.specs.declared.fault.OrderFault.{OrderFault}
use Rattle.call_order.specs.declared.fault.OrderFault.TheVariants.{Cycle, Chain, TooLong, Memory}
use Rattle.call_order.specs.Graphs.{graph_of}
use Rattle.call_order.specs.Chains.{ReachesItself, BeginsMore}
use Rattle.call_order.specs.Expanded.{expanded_in}
use Rattle.call_order.specs.Orders.{HasNone}
use Rattle.call_order.specs.Faults.{IsFirstBelow, IsFirstMethod, HasOrderFault, last_count}
use Rattle.call_order.specs.OrderLaws.{HasOrder, HasFault}
use Rattle.call_order.proofs.OrderLemmas.{all_placed, is_order}
use Rattle.call_order.proofs.WholeLemmas.{graph_known, length_graph}
use Rattle.call_order.proofs.Decides.{first_or_none, begins_or_not, levels_found, cycle_or_not, order_found}

same_first : (P : ℕ → Type 0) (n i j : ℕ) → IsFirstBelow P n i → IsFirstBelow P n j → i ≡ j
same_first P n i j a b =
    elim (cases_lt i j) [
      | inl lt ↦ absurd (b.first i lt a.holds)
      | inr le ↦ elim (cases_lt j i) [ inl lt ↦ absurd (a.first j lt b.holds) | inr ge ↦ omega (arith, le, ge) ]
    ]

module _ (f : Flowchart) where
  same_name : (P : ℕ → Type 0) (x y : List ℕ) → IsFirstMethod f P x → IsFirstMethod f P y → x ≡ y
  same_name P x y a b =
      let i = same_first P (length f.methods) a.0 b.0 a.1 b.1 in
      let e = sym a.2 ∙ ap (slice_get (method_names f.methods)) i ∙ b.2 in
      cc

  none_first : (P : ℕ → Type 0) (x : List ℕ) → HasNone P (length f.methods) → IsFirstMethod f P x → ⊥
  none_first P x none a = none a.0 a.1.below a.1.holds

  pub never_both : HasOrder f → HasFault f → ⊥
  never_both h (Cycle x, r) = none_first (ReachesItself (graph_of f.methods)) x h.1.acyclic r
  never_both h (Chain x, r) = none_first (BeginsMore (graph_of f.methods) 64) x h.1.chains r.first
  never_both h (TooLong n, r) = let s = h.1.short in let l = r.long in omega (arith, s, l)
  never_both h (Memory e, r) = r

  pub one_fault : (a b : OrderFault) → HasOrderFault f a → HasOrderFault f b → a ≡ b
  one_fault (Cycle x) (Cycle y) r s = ap Cycle (same_name (ReachesItself (graph_of f.methods)) x y r s)
  one_fault (Cycle x) (Chain y) r s = absurd (none_first (ReachesItself (graph_of f.methods)) x s.acyclic r)
  one_fault (Cycle x) (TooLong y) r s = absurd (none_first (ReachesItself (graph_of f.methods)) x s.acyclic r)
  one_fault (Cycle x) (Memory e) r s = absurd s
  one_fault (Chain x) (Cycle y) r s = absurd (none_first (ReachesItself (graph_of f.methods)) y r.acyclic s)
  one_fault (Chain x) (Chain y) r s = ap Chain (same_name (BeginsMore (graph_of f.methods) 64) x y r.first s.first)
  one_fault (Chain x) (TooLong y) r s = absurd (none_first (BeginsMore (graph_of f.methods) 64) x s.chains r.first)
  one_fault (Chain x) (Memory e) r s = absurd s
  one_fault (TooLong x) (Cycle y) r s = absurd (none_first (ReachesItself (graph_of f.methods)) y r.acyclic s)
  one_fault (TooLong x) (Chain y) r s = absurd (none_first (BeginsMore (graph_of f.methods) 64) y r.chains s.first)
  one_fault (TooLong x) (TooLong y) r s = ap TooLong (sym r.counted ∙ s.counted)
  one_fault (TooLong x) (Memory e) r s = absurd s
  one_fault (Memory e) b r s = absurd r

name_there : (ms : List Routine) (i : ℕ) → i < length ms → (x : List ℕ) × (slice_get (method_names ms) i ≡ Some x)
name_there [] i lt = absurd (omega arith)
name_there (m ∷ ms) zero lt = (m.name, refl)
name_there (m ∷ ms) (suc i) lt = name_there ms i (omega arith)

module _ (f : Flowchart) where
  named_first : (P : ℕ → Type 0) (i : ℕ) → IsFirstBelow P (length f.methods) i → (x : List ℕ) × IsFirstMethod f P x
  named_first P i h = let n = name_there f.methods i h.below in (n.0, (i, h, n.1))

  pub some : HasOrder f ⊎ HasFault f
  some =
      let ms = f.methods in
      let g = graph_of ms in
      let known = graph_known ms in
      let inside = λ (i : ℕ) (lt : i < length ms). subst (λ n. i < n) (sym (length_graph ms)) lt in
      elim (first_or_none (ReachesItself g) (length ms) (λ i lt. cycle_or_not g known i (inside i lt))) [
        | inl c ↦ (let n = named_first (ReachesItself g) c.0 c.1 in inr (Cycle n.0, n.1))
        | inr acyclic ↦ elim (first_or_none (BeginsMore g 64) (length ms) (λ i lt. begins_or_not g 64 i)) [
          | inl c ↦ (let n = named_first (BeginsMore g 64) c.0 c.1 in inr (Chain n.0, record { acyclic = acyclic; first = n.1 }))
          | inr chains ↦ elim (cases_lt 200000 (expanded_in f)) [
            | inl long ↦ inr (TooLong (min (expanded_in f) last_count), record { acyclic = acyclic; chains = chains; long = long; counted = refl })
            | inr short ↦ (let outside = λ (i : ℕ) (lt : i < length g). subst (λ n. i < n) (length_graph ms) lt in
                let levels = levels_found g (λ i lt. chains i (outside i lt)) in
                let order = order_found levels.0 (all_placed g levels.0 levels.1 levels.2) in
                inl (order.0, record { acyclic = acyclic; chains = chains; short = short; ordered = is_order g levels.0 levels.1 levels.2 order.0 known order.1 }))
          ]
        ]
      ]
