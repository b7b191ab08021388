-- The elements of a list whose keys rise: what stands at a key is one of them, and each stands at its key.
use Rattle.std.proofs.Common.{◌≡◌, ◌⊎◌, inl, inr, ℕ, zero, suc, ◌<◌, List, [], ◌∷◌, length, get_or, true, false, if◌then◌else◌, Option, Some, None, refl, sym, ap, subst, ◌∙◌, arith}
use Rattle.std.specs.Prelude.{Contains}
use Rattle.std.specs.List.{AllByRecursion}
use Rattle.std.specs.declared.cmp.Ordering.{Ordering}
use Rattle.std.specs.declared.cmp.Ordering.TheVariants.{Less, Equal, Greater}
use Rattle.std.specs.Ordering.{is_eq}
use Rattle.std.specs.Cmp.{IsTotalOrder}
use Rattle.std.proofs.lemmas.Cmp.{tied_itself}
use Rattle.rising_lists.specs.Keyed.{at_key, AreAbove, IsRising}
use Rattle.rising_lists.proofs.KeyLemmas.{at_key_above}

-- ---- elements

abbrev pub In : {X : Type 0} → List X → X → Type 0
In [] x = ⊥
In (y ∷ ys) x = (y ≡ x) ⊎ In ys x

pub contains_of_in : {X : Type 0} (xs : List X) (x : X) → In xs x → Contains xs x
contains_of_in [] x h = absurd h
contains_of_in (y ∷ ys) x (inl e) = (0, omega arith, e)
contains_of_in (y ∷ ys) x (inr h) = later (contains_of_in ys x h)
  where
    later : Contains ys x → Contains (y ∷ ys) x
    later c = (suc c.0, omega arith, c.2)

in_at : {X : Type 0} (xs : List X) (x : X) (k : ℕ) → k < length xs → get_or xs k x ≡ x → In xs x
in_at [] x k l e = absurd (omega arith)
in_at (y ∷ ys) x zero l e = inl e
in_at (y ∷ ys) x (suc k) l e = inr (in_at ys x k (omega arith) e)

pub in_of_contains : {X : Type 0} (xs : List X) (x : X) → Contains xs x → In xs x
in_of_contains xs x c = in_at xs x c.0 c.1 c.2

pub all_in : {X : Type 0} (P : X → Type 0) (xs : List X) (x : X) → AllByRecursion P xs → In xs x → P x
all_in P [] x h m = absurd m
all_in P (y ∷ ys) x h (inl e) = subst P e h.0
all_in P (y ∷ ys) x h (inr m) = all_in P ys x h.1 m

-- ---- keys

pub tied : (o : Ordering) → is_eq o ≡ true → o ≡ Equal
tied Less e = cc e
tied Equal e = refl
tied Greater e = cc e

pub some_same : {X : Type 0} (x y : X) → ◌≡◌ {A = Option X} (Some x) (Some y) → x ≡ y
some_same x y e = cc e

pub none_some : {X : Type 0} (x : X) → ◌≡◌ {A = Option X} None (Some x) → ⊥
none_some x e = cc e

module _ {K X : Type 0} (cmp : K → K → Ordering) (key : X → K) where
  -- what stands at a key is an element with that key
  pub found_in : (xs : List X) (k : K) (x : X) → at_key cmp key xs k ≡ Some x → In xs x × (cmp (key x) k ≡ Equal)
  found_in [] k x h = absurd (cc h)
  found_in (y ∷ ys) k x h = (elim (is_eq (cmp (key y) k)) as (λ b. is_eq (cmp (key y) k) ≡ b →
      (if b then Some y else at_key cmp key ys k) ≡ Some x → In (y ∷ ys) x × (cmp (key x) k ≡ Equal)) [
        | true ↦ λ t e. (
          inl (some_same y x e),
          subst (λ z. cmp (key z) k ≡ Equal) (some_same y x e)
              (tied (cmp (key y) k) t),
        )
        | false ↦ λ t e. (let more = found_in ys k x e in (inr more.0, more.1))
      ]) refl h

  pub all_above : (k : K) (xs : List X) → AreAbove cmp key k xs → AllByRecursion (λ x. cmp k (key x) ≡ Less) xs
  all_above k [] h = tt
  all_above k (x ∷ xs) h = (h.0, all_above k xs h.1)

  pub above_all_of : (k : K) (xs : List X) → AllByRecursion (λ x. cmp k (key x) ≡ Less) xs → AreAbove cmp key k xs
  above_all_of k [] h = tt
  above_all_of k (x ∷ xs) h = (h.0, above_all_of k xs h.1)

  pub above_in : (k : K) (xs : List X) (x : X) → AreAbove cmp key k xs → In xs x → cmp k (key x) ≡ Less
  above_in k xs x h m = all_in (λ x. cmp k (key x) ≡ Less) xs x (all_above k xs h) m

module _ {K X : Type 0} (cmp : K → K → Ordering) (total : IsTotalOrder cmp) (key : X → K) where
  pub at_key_none : (k : K) (xs : List X) → AreAbove cmp key k xs → at_key cmp key xs k ≡ None
  at_key_none k xs h = at_key_above cmp total key k k xs h (tied_itself total k)

  -- an element stands at its key
  pub in_found : (xs : List X) (x : X) → IsRising cmp key xs → In xs x → at_key cmp key xs (key x) ≡ Some x
  in_found [] x h m = absurd m
  in_found (y ∷ ys) x h (inl e) =
      let t : cmp (key y) (key x) ≡ Equal = ap (λ z. cmp (key y) (key z)) (sym e) ∙ tied_itself total (key y) in
      rw t (ap Some e)
  in_found (y ∷ ys) x h (inr m) =
      let l : cmp (key y) (key x) ≡ Less = above_in cmp key (key y) ys x h.0 m in
      rw l (in_found ys x h.1 m)
