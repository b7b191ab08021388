-- What holds of each element; lists with rising keys, one after the other, and with the same elements.
use Rattle.std.proofs.Common.{◌≡◌, inl, inr, List, [], ◌∷◌, ◌++◌, map, true, false, if◌then◌else◌, Some, refl, sym, ap, subst, ◌∙◌}
use Rattle.std.specs.List.{AllByRecursion}
use Rattle.std.specs.Option.{option_or}
use Rattle.std.specs.declared.cmp.Ordering.{Ordering}
use Rattle.std.specs.declared.cmp.Ordering.TheVariants.{Less, Equal}
use Rattle.std.specs.Ordering.{is_eq}
use Rattle.std.specs.Cmp.{IsTotalOrder}
use Rattle.std.proofs.lemmas.Cmp.{tied_itself}
use Rattle.rising_lists.specs.Keyed.{at_key, AreAbove, IsRising}
use Rattle.rising_lists.proofs.Laws.{In, above_in}

pub all_append : {X : Type 0} (P : X → Type 0) (xs ys : List X) → AllByRecursion P xs → AllByRecursion P ys →
    AllByRecursion P (xs ++ ys)
all_append P [] ys h k = k
all_append P (x ∷ xs) ys h k = (h.0, all_append P xs ys h.1 k)

pub all_more : {X : Type 0} (P Q : X → Type 0) (xs : List X) → ((x : X) → P x → Q x) → AllByRecursion P xs →
    AllByRecursion Q xs
all_more P Q [] f h = tt
all_more P Q (x ∷ xs) f h = (f x h.0, all_more P Q xs f h.1)

pub all_map : {X Y : Type 0} (P : X → Type 0) (Q : Y → Type 0) (f : X → Y) (xs : List X) → ((x : X) → P x → Q (f x)) →
    AllByRecursion P xs → AllByRecursion Q (map f xs)
all_map P Q f [] g h = tt
all_map P Q f (x ∷ xs) g h = (g x h.0, all_map P Q f xs g h.1)

-- ---- keys

module _ {K X : Type 0} (cmp : K → K → Ordering) (key : X → K) where
  pub at_key_append : (xs ys : List X) (k : K) →
      at_key cmp key (xs ++ ys) k ≡ option_or (at_key cmp key xs k) (at_key cmp key ys k)
  at_key_append [] ys k = refl
  at_key_append (x ∷ xs) ys k = elim (is_eq (cmp (key x) k)) as (λ b. (if b then Some x else at_key cmp key (xs ++ ys) k) ≡ option_or (if b then Some x else at_key cmp key xs k) (at_key cmp key ys k)) [
    | true ↦ refl
    | false ↦ at_key_append xs ys k
  ]

  above_append : (k : K) (xs ys : List X) → AreAbove cmp key k xs → AreAbove cmp key k ys →
      AreAbove cmp key k (xs ++ ys)
  above_append k [] ys g h = h
  above_append k (x ∷ xs) ys g h = (g.0, above_append k xs ys g.1 h)

  -- two lists with rising keys, one above the other
  pub rising_append : (xs ys : List X) → IsRising cmp key xs → IsRising cmp key ys →
      AllByRecursion (λ x. AreAbove cmp key (key x) ys) xs → IsRising cmp key (xs ++ ys)
  rising_append [] ys g h a = h
  rising_append (x ∷ xs) ys g h a = (above_append (key x) xs ys g.0 a.0, rising_append xs ys g.1 h a.1)

module _ {K X : Type 0} (cmp : K → K → Ordering) (total : IsTotalOrder cmp) (key : X → K) where
  less_apart : (o : Ordering) → o ≡ Less → o ≡ Equal → ⊥
  less_apart o l e = let p = sym l ∙ e in cc

  pub not_above_itself : (k : K) → cmp k k ≡ Less → ⊥
  not_above_itself k l = less_apart (cmp k k) l (tied_itself total k)

  -- two lists with rising keys and the same elements are one
  pub same_elements : (xs ys : List X) → IsRising cmp key xs → IsRising cmp key ys → ((x : X) → In xs x → In ys x) →
      ((x : X) → In ys x → In xs x) → xs ≡ ys
  same_elements [] [] g h f b = refl
  same_elements [] (y ∷ ys) g h f b = absurd (b y (inl refl))
  same_elements (x ∷ xs) [] g h f b = absurd (f x (inl refl))
  same_elements (x ∷ xs) (y ∷ ys) g h f b =
      let heads : x ≡ y = first (f x (inl refl)) (b y (inl refl)) in
      ap (λ z. z ∷ xs) heads
      ∙ ap (λ t. y ∷ t) (same_elements xs ys g.1 h.1 (λ z m. there heads z m (f z (inr m))) (λ z m. back heads z m (b z (inr m))))
    where
      first : In (y ∷ ys) x → In (x ∷ xs) y → x ≡ y
      first (inl e) n = sym e
      first (inr m) (inl e) = e
      first (inr m) (inr n) = absurd (not_above_itself (key x) (total.trans (key x) (key y) (key x) (above_in cmp key (key x) xs y g.0 n) (above_in cmp key (key y) ys x h.0 m)))

      there : x ≡ y → (z : X) → In xs z → In (y ∷ ys) z → In ys z
      there s z m (inl e) = absurd (not_above_itself (key x) (subst (λ w. cmp (key x) (key w) ≡ Less) (sym (s ∙ e)) (above_in cmp key (key x) xs z g.0 m)))
      there s z m (inr n) = n

      back : x ≡ y → (z : X) → In ys z → In (x ∷ xs) z → In xs z
      back s z m (inl e) = absurd (not_above_itself (key y) (subst (λ w. cmp (key y) (key w) ≡ Less) (sym (sym s ∙ e)) (above_in cmp key (key y) ys z h.0 m)))
      back s z m (inr n) = n
