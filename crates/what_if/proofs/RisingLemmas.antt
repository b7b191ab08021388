-- Lists with rising keys: two with the same element at each key are one.
use Rattle.std.proofs.Common.{◌≡◌, List, [], ◌∷◌, if◌then◌else◌, Option, Some, None, refl, sym, ap, ◌∙◌}
use Rattle.std.specs.declared.cmp.Ordering.{Ordering}
use Rattle.std.specs.declared.cmp.Ordering.TheVariants.{Less, Equal, Greater}
use Rattle.std.specs.Ordering.{is_eq, ordering_reverse}
use Rattle.std.specs.Cmp.{IsTotalOrder}
use Rattle.std.proofs.lemmas.Cmp.{tied_itself}
use Rattle.rising_lists.specs.Keyed.{at_key, AreAbove, IsRising}
use Rattle.rising_lists.proofs.Laws.{above_more, at_key_above, at_key_none, none_some, some_same}

module _ {K X : Type 0} (cmp : K → K → Ordering) (total : IsTotalOrder cmp) (key : X → K) where
  abbrev at : List X → K → Option X
  at xs k = at_key cmp key xs k

  head_at : (x : X) (xs : List X) → at (x ∷ xs) (key x) ≡ Some x
  head_at x xs = rw (tied_itself total (key x))

  below_at : (k : K) (y : X) (ys : List X) → cmp k (key y) ≡ Less → AreAbove cmp key (key y) ys → at (y ∷ ys) k ≡ None
  below_at k y ys l h = at_key_none cmp total key k (y ∷ ys) (l, above_more cmp total key k (key y) ys l h)

  -- lists with rising keys that have the same element at each key are one
  pub same_at : (xs ys : List X) → IsRising cmp key xs → IsRising cmp key ys → ((k : K) → at xs k ≡ at ys k) → xs ≡ ys
  same_at [] [] g h e = refl
  same_at [] (y ∷ ys) g h e = absurd (none_some y (e (key y) ∙ head_at y ys))
  same_at (x ∷ xs) [] g h e = absurd (none_some x (sym (e (key x)) ∙ head_at x xs))
  same_at (x ∷ xs) (y ∷ ys) g h e = by (same_at xs ys g.1 h.1) (cmp (key x) (key y)) refl
    where
      tail : x ≡ y → (k : K) → at xs k ≡ at ys k
      tail s k = (elim (cmp (key x) k) as (λ o. cmp (key x) k ≡ o →
          (if is_eq o then Some x else at xs k) ≡ (if is_eq o then Some y else at ys k) → at xs k ≡ at ys k) [
            | Less ↦ λ t f. f
            | Equal ↦ λ t f. at_key_above cmp total key (key x) k xs g.0 t
                ∙ sym (at_key_above cmp total key (key y) k ys h.0 (ap (λ z. cmp (key z) k) (sym s) ∙ t))
            | Greater ↦ λ t f. f
          ]) refl (e k ∙ ap (λ z. if is_eq (cmp (key z) k) then Some y else at ys k) (sym s))

      by : (((k : K) → at xs k ≡ at ys k) → xs ≡ ys) → (o : Ordering) → cmp (key x) (key y) ≡ o → x ∷ xs ≡ y ∷ ys
      by more Less t = absurd (none_some x (sym (below_at (key x) y ys t h.0) ∙ sym (e (key x)) ∙ head_at x xs))
      by more Equal t =
          let here : at (x ∷ xs) (key y) ≡ Some x = ap (λ o. if is_eq o then Some x else at xs (key y)) t in
          let s = some_same x y (sym here ∙ e (key y) ∙ head_at y ys) in
          λ i. s i ∷ more (tail s) i
      by more Greater t =
          let l : cmp (key y) (key x) ≡ Less = total.antisymm (key y) (key x) ∙ ap ordering_reverse t in
          absurd (none_some y (sym (below_at (key y) x xs l g.0) ∙ e (key y) ∙ head_at y ys))
