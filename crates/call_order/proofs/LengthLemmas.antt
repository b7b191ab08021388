-- Expanded statements, counted in the order of methods.
use Rattle.std.proofs.Common.{◌≡◌, ◌≢◌, ℕ, zero, suc, ◌+◌, ◌<◌, inl, inr, List, [], ◌∷◌, length, get_or, set, take, ap, ◌∙◌, refl, sym, subst, arith}
use Rattle.std.specs.Prelude.{Contains, All, slice_index, min, sum_by}
use Rattle.std.proofs.lemmas.Bool.{cases_eq}
use Rattle.std.proofs.lemmas.List.{get_or-set_same, get_or-set_other, length-set, take_more}
use Rattle.std.proofs.lemmas.List.Sums.{sum_by-cons}
use Rattle.std.proofs.lemmas.List.Elements.{All-head, All-tail, All-contains_itself, All-weaker, Contains-push_cases}
use Rattle.call_order.specs.Graphs.{Graph, Content}
use Rattle.call_order.specs.Chains.{Executes, BeginsMore, content_at}
use Rattle.call_order.specs.Faults.{last_count}
use Rattle.call_order.specs.Orders.{IsOrder}
use Rattle.call_order.specs.private.LengthViews.{length_of, length_with, AreLengths}
use Rattle.call_order.proofs.ChainLemmas.{begins-more}

-- a sum that stops, of parts that last_count
pub min_sum : (s : ℕ) (f h : ℕ → ℕ) (js : List ℕ) (a : ℕ) → All (λ j. f j ≡ min (h j) s) js → min (a + sum_by f js) s ≡ min (a + sum_by h js) s
min_sum s f h [] a all = refl
min_sum s f h (x ∷ js) a all =
    let P : ℕ → Type 0 = λ j. f j ≡ min (h j) s in
    let e = All-head P x js all in
    let r = min_sum s f h js (a + h x) (All-tail P x js all) in
    let y = sum_by-cons f x js in
    let z = sum_by-cons h x js in
    joined (f x) (h x) (sum_by f js) (sum_by h js) (sum_by f (x ∷ js)) (sum_by h (x ∷ js)) e y z r
  where
    joined : (p q b c t u : ℕ) → p ≡ min q s → t ≡ p + b → u ≡ q + c → min (a + q + b) s ≡ min (a + q + c) s → min (a + t) s ≡ min (a + u) s
    joined p q b c t u e y z r = omega arith

module _ (g : Graph) where
  value_is : (i n : ℕ) (ls : List ℕ) → (BeginsMore g n i → ⊥) → ((j : ℕ) → Executes g i j → (m : ℕ) → (BeginsMore g m j → ⊥) → slice_index ls j ≡ min (length_of g m j) last_count) → min (length_with (content_at g i) (slice_index ls)) last_count ≡ min (length_of g n i) last_count
  unfolding length_of
  value_is i zero ls nb f = absurd (nb ([], tt, omega arith))
  value_is i (suc m) ls nb f =
      min_sum last_count (slice_index ls) (length_of g m) (content_at g i).methods (content_at g i).statements
      (All-weaker (Contains (content_at g i).methods) (λ j. slice_index ls j ≡ min (length_of g m j) last_count) (λ j ex. f j ex m (λ b. nb (more j ex b))) (content_at g i).methods (All-contains_itself (content_at g i).methods))
    where
      more : (j : ℕ) → Executes g i j → BeginsMore g m j → BeginsMore g (suc m) i
      more j ex b = let r = begins-more g i j m ex b in (r.0, r.1, omega (arith, r.2))

  pub lengths_first : (o ls : List ℕ) → length ls ≡ length g → AreLengths g [] ls
  lengths_first o ls e = record { all = e; each = λ i c n nb. absurd (omega (arith, c.1)) }

  pub lengths_more : (i k v : ℕ) (o ls ls' : List ℕ) (c : Content) → AreLengths g (take k o) ls → IsOrder g o → k < length o → i ≡ get_or o k 0 → i < length g → c ≡ content_at g i → v ≡ min (length_with c (slice_index ls)) last_count → ls' ≡ set ls i v → AreLengths g (take (k + 1) o) ls'
  lengths_more i k v o ls ls' c h order kl at il ci vi is = record {
    all = ap length is ∙ length-set ls i v ∙ h.all;
    each = λ x xc n nb. elim (cases_eq x i) [
      | inl same ↦ ap (λ l. get_or l x 0) is ∙ ap (λ y. get_or (set ls i v) y 0) same ∙ get_or-set_same ls i v 0 (omega (arith, h.all, il)) ∙ here n (subst (λ y. BeginsMore g n y → ⊥) same nb) ∙ ap (λ y. min (length_of g n y) last_count) (sym same)
      | inr other ↦ ap (λ l. get_or l x 0) is ∙ get_or-set_other ls i x v 0 other ∙ h.each x (earlier x xc other) n nb
    ];
  }
    where
      here : (n : ℕ) → (BeginsMore g n i → ⊥) → v ≡ min (length_of g n i) last_count
      here n nb = vi ∙ ap (λ q. min (length_with q (slice_index ls)) last_count) ci
          ∙ value_is i n ls nb (λ j ex m nb'. h.each j (order.after k kl j (subst (λ y. Executes g y j) at ex)) m nb')

      earlier : (x : ℕ) → Contains (take (k + 1) o) x → x ≢ i → Contains (take k o) x
      earlier x xc ne = elim (Contains-push_cases (take k o) (get_or o k 0) x (subst (λ l. Contains l x) (take_more o k 0 kl) xc)) [
        | inl b ↦ b
        | inr same ↦ absurd (ne (sym same ∙ sym at))
      ]

pub call_at : (g : Graph) (i : ℕ) (x : Content) → x ≡ get_or g i x → i < length g → x ≡ content_at g i
call_at [] i x is lt = absurd (omega arith)
call_at (y ∷ g) zero x is lt = is
call_at (y ∷ g) (suc i) x is lt = call_at g i x is (omega arith)
