-- Several elements put into a list at once: what stands at a key then, and how two lists are merged.
use Rattle.std.proofs.Common.{◌≡◌, List, [], ◌∷◌, true, false, if◌then◌else◌, Option, Some, None, refl, sym, ap, ◌∙◌}
use Rattle.std.specs.declared.cmp.Ordering.{Ordering}
use Rattle.std.specs.declared.cmp.Ordering.TheVariants.{Less, Equal, Greater}
use Rattle.std.specs.Ordering.{is_eq, ordering_reverse}
use Rattle.std.specs.Cmp.{IsTotalOrder}
use Rattle.std.proofs.lemmas.Cmp.{alike_right}
use Rattle.rising_lists.specs.Keyed.{at_key, put, put_by, AreAbove, IsRising}
use Rattle.rising_lists.proofs.Laws.{at_key_put, put_rising, above_more, above_same}
use Rattle.book_edits.specs.private.Puts.{puts}

-- the first of two that there is
abbrev pub first_of : {X : Type 0} → Option X → Option X → Option X
first_of None b = b
first_of (Some a) b = Some a

module _ {K X : Type 0} (cmp : K → K → Ordering) (total : IsTotalOrder cmp) (key : X → K) where
  to_greater : (a b : K) → cmp a b ≡ Less → cmp b a ≡ Greater
  to_greater a b e = total.antisymm b a ∙ ap ordering_reverse e

  to_less : (a b : K) → cmp a b ≡ Greater → cmp b a ≡ Less
  to_less a b e = total.antisymm b a ∙ ap ordering_reverse e

  -- an element put in place of one of its key
  pub put_over : (d e : X) (xs : List X) → cmp (key d) (key e) ≡ Equal → put cmp key d (put cmp key e xs) ≡ put cmp key d xs
  put_over d e [] t = ap (λ o. put_by o d e [] (d ∷ [])) t
  put_over d e (x ∷ xs) t =
      elim (cmp (key e) (key x)) as (λ o. cmp (key e) (key x) ≡ o → put cmp key d (put_by o e x xs (put cmp key e xs)) ≡ put_by o d x xs (put cmp key d xs)) [
        | Less ↦ λ h. ap (λ o. put_by o d e (x ∷ xs) (put cmp key d (x ∷ xs))) t
        | Equal ↦ λ h. ap (λ o. put_by o d e xs (put cmp key d xs)) t
        | Greater ↦ λ h. ap (λ o. put_by o d x (put cmp key e xs) (put cmp key d (put cmp key e xs))) (total.congr (key d) (key e) (key x) t ∙ h) ∙ ap (λ l. x ∷ l) (put_over d e xs t)
      ] refl
      ∙ sym (ap (λ o. put_by o d x xs (put cmp key d xs)) (total.congr (key d) (key e) (key x) t))

  -- the put of a lower element, in front of one that is no lower than the higher element
  in_front : (d e x : X) (xs : List X) → cmp (key d) (key e) ≡ Less → cmp (key d) (key x) ≡ Less → put cmp key e (put cmp key d (x ∷ xs)) ≡ d ∷ put cmp key e (x ∷ xs)
  in_front d e x xs l h =
      ap (λ o. put cmp key e (put_by o d x xs (put cmp key d xs))) h ∙ ap (λ o. put_by o e d (x ∷ xs) (put cmp key e (x ∷ xs))) (to_greater (key d) (key e) l)

  -- puts at two keys, in either order
  put_apart : (d e : X) (xs : List X) → cmp (key d) (key e) ≡ Less → put cmp key d (put cmp key e xs) ≡ put cmp key e (put cmp key d xs)
  put_apart d e [] l = ap (λ o. put_by o d e [] (d ∷ [])) l ∙ sym (ap (λ o. put_by o e d [] (e ∷ [])) (to_greater (key d) (key e) l))
  put_apart d e (x ∷ xs) l = elim (cmp (key e) (key x)) as (λ o. cmp (key e) (key x) ≡ o → put cmp key d (put_by o e x xs (put cmp key e xs)) ≡ put cmp key e (put cmp key d (x ∷ xs))) [
    | Less ↦ λ h.
        ap (λ o. put_by o d e (x ∷ xs) (put cmp key d (x ∷ xs))) l
        ∙ sym (in_front d e x xs l (total.trans (key d) (key e) (key x) l h) ∙ ap (λ o. d ∷ put_by o e x xs (put cmp key e xs)) h)
    | Equal ↦ λ h.
        ap (λ o. put_by o d e xs (put cmp key d xs)) l
        ∙ sym (in_front d e x xs l (sym (alike_right total (key e) (key x) (key d) h) ∙ l) ∙ ap (λ o. d ∷ put_by o e x xs (put cmp key e xs)) h)
    | Greater ↦ λ h. elim (cmp (key d) (key x)) as (λ o. cmp (key d) (key x) ≡ o → put_by o d x (put cmp key e xs) (put cmp key d (put cmp key e xs)) ≡ put cmp key e (put_by o d x xs (put cmp key d xs))) [
      | Less ↦ λ k. sym (ap (λ o. put_by o e d (x ∷ xs) (put cmp key e (x ∷ xs))) (to_greater (key d) (key e) l) ∙ ap (λ o. d ∷ put_by o e x xs (put cmp key e xs)) h)
      | Equal ↦ λ k. sym (ap (λ o. put_by o e d xs (put cmp key e xs)) (to_greater (key d) (key e) l))
      | Greater ↦ λ k. ap (λ t. x ∷ t) (put_apart d e xs l) ∙ sym (ap (λ o. put_by o e x (put cmp key d xs) (put cmp key e (put cmp key d xs))) h)
    ] refl
  ] refl

  pub put_comm : (d e : X) (xs : List X) → (cmp (key d) (key e) ≡ Equal → ⊥) → put cmp key d (put cmp key e xs) ≡ put cmp key e (put cmp key d xs)
  put_comm d e xs apart = elim (cmp (key d) (key e)) as (λ o. cmp (key d) (key e) ≡ o → put cmp key d (put cmp key e xs) ≡ put cmp key e (put cmp key d xs)) [
    | Less ↦ λ h. put_apart d e xs h
    | Equal ↦ λ h. absurd (apart h)
    | Greater ↦ λ h. sym (put_apart e d xs (to_less (key d) (key e) h))
  ] refl

  -- ---- puts

  pub puts_put : (d : X) (ds xs : List X) → puts cmp key (put cmp key d ds) xs ≡ put cmp key d (puts cmp key ds xs)
  puts_put d [] xs = refl
  puts_put d (e ∷ ds) xs = elim (cmp (key d) (key e)) as (λ o. cmp (key d) (key e) ≡ o → puts cmp key (put_by o d e ds (put cmp key d ds)) xs ≡ put cmp key d (put cmp key e (puts cmp key ds xs))) [
    | Less ↦ λ h. refl
    | Equal ↦ λ h. sym (put_over d e (puts cmp key ds xs) h)
    | Greater ↦ λ h. ap (put cmp key e) (puts_put d ds xs) ∙ put_apart e d (puts cmp key ds xs) (to_less (key d) (key e) h)
  ] refl

  pub at_key_puts : (ds xs : List X) (k : K) → at_key cmp key (puts cmp key ds xs) k ≡ first_of (at_key cmp key ds k) (at_key cmp key xs k)
  at_key_puts [] xs k = refl
  at_key_puts (d ∷ ds) xs k =
      at_key_put cmp total key d (puts cmp key ds xs) k
      ∙ (elim (is_eq (cmp (key d) k)) as (λ b. (if b then Some d else at_key cmp key (puts cmp key ds xs) k) ≡ first_of (if b then Some d else at_key cmp key ds k) (at_key cmp key xs k)) [
        | true ↦ refl
        | false ↦ at_key_puts ds xs k
      ])

  pub puts_rising : (ds xs : List X) → IsRising cmp key xs → IsRising cmp key (puts cmp key ds xs)
  puts_rising [] xs h = h
  puts_rising (d ∷ ds) xs h = put_rising cmp total key d (puts cmp key ds xs) (puts_rising ds xs h)

  -- ---- the lowest element of two lists with rising keys

  above_put : (m : K) (y : X) (xs : List X) → cmp m (key y) ≡ Less → AreAbove cmp key m xs → AreAbove cmp key m (put cmp key y xs)
  above_put m y [] l h = (l, tt)
  above_put m y (x ∷ xs) l h = elim (cmp (key y) (key x)) as (λ o. AreAbove cmp key m (put_by o y x xs (put cmp key y xs))) [
    | Less ↦ (l, h)
    | Equal ↦ (l, h.1)
    | Greater ↦ (h.0, above_put m y xs l h.1)
  ]

  above_puts : (m : K) (ds xs : List X) → AreAbove cmp key m ds → AreAbove cmp key m xs → AreAbove cmp key m (puts cmp key ds xs)
  above_puts m [] xs g h = h
  above_puts m (d ∷ ds) xs g h = above_put m d (puts cmp key ds xs) g.0 (above_puts m ds xs g.1 h)

  put_below : (d : X) (xs : List X) → AreAbove cmp key (key d) xs → put cmp key d xs ≡ d ∷ xs
  put_below d [] h = refl
  put_below d (x ∷ xs) h = ap (λ o. put_by o d x xs (put cmp key d xs)) h.0

  puts_beyond : (ds : List X) (y : X) (xs : List X) → AreAbove cmp key (key y) ds → puts cmp key ds (y ∷ xs) ≡ y ∷ puts cmp key ds xs
  puts_beyond [] y xs h = refl
  puts_beyond (d ∷ ds) y xs h =
      ap (put cmp key d) (puts_beyond ds y xs h.1) ∙ ap (λ o. put_by o d y (puts cmp key ds xs) (put cmp key d (puts cmp key ds xs))) (to_greater (key y) (key d) h.0)

  pub puts_old : (d : X) (ds : List X) (y : X) (xs : List X) → cmp (key y) (key d) ≡ Less → IsRising cmp key (d ∷ ds) → puts cmp key (d ∷ ds) (y ∷ xs) ≡ y ∷ puts cmp key (d ∷ ds) xs
  puts_old d ds y xs l h = puts_beyond (d ∷ ds) y xs (l, above_more cmp total key (key y) (key d) ds l h.0)

  pub puts_tied : (d : X) (ds : List X) (y : X) (xs : List X) → cmp (key y) (key d) ≡ Equal → IsRising cmp key (d ∷ ds) → puts cmp key (d ∷ ds) (y ∷ xs) ≡ d ∷ puts cmp key ds xs
  puts_tied d ds y xs e h =
      ap (put cmp key d) (puts_beyond ds y xs (above_same cmp total key (key y) (key d) ds e h.0))
      ∙ ap (λ o. put_by o d y (puts cmp key ds xs) (put cmp key d (puts cmp key ds xs))) (total.antisymm (key d) (key y) ∙ ap ordering_reverse e)

  pub puts_new : (d : X) (ds xs : List X) → IsRising cmp key (d ∷ ds) → AreAbove cmp key (key d) xs → puts cmp key (d ∷ ds) xs ≡ d ∷ puts cmp key ds xs
  puts_new d ds xs h above = put_below d (puts cmp key ds xs) (above_puts (key d) ds xs h.0 above)
