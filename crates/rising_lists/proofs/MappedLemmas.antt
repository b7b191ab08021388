-- A list whose keys rise, mapped by a function that keeps the keys: it rises too, and what stands at a key is the image.
use Rattle.std.proofs.Common.{◌≡◌, List, [], ◌∷◌, map, true, false, if◌then◌else◌, Option, Some, None, option_map, refl, sym, ap, subst, ◌∙◌}
use Rattle.std.specs.Prelude.{option_and_then}
use Rattle.std.specs.List.{cons_option, filter_map}
use Rattle.std.specs.declared.cmp.Ordering.{Ordering}
use Rattle.std.specs.declared.cmp.Ordering.TheVariants.{Less, Equal, Greater}
use Rattle.std.specs.Ordering.{is_eq}
use Rattle.std.specs.Cmp.{IsTotalOrder}
use Rattle.rising_lists.specs.Keyed.{at_key, AreAbove, IsRising}
use Rattle.rising_lists.proofs.KeyLemmas.{at_key_above}

module _ {K X Y : Type 0} (cmp : K → K → Ordering) (total : IsTotalOrder cmp) (key : X → K) (to : Y → K)
    (f : X → Option Y) (keeps : (x : X) (y : Y) → f x ≡ Some y → to y ≡ key x) where
  pub above_filter_map : (k : K) (xs : List X) → AreAbove cmp key k xs → AreAbove cmp to k (filter_map f xs)
  above_filter_map k [] h = tt
  above_filter_map k (x ∷ xs) h = elim (f x) as (λ o. f x ≡ o → AreAbove cmp to k (cons_option o (filter_map f xs))) [
    | None ↦ λ e. above_filter_map k xs h.1
    | Some y ↦ λ e. (ap (cmp k) (keeps x y e) ∙ h.0, above_filter_map k xs h.1)
  ] refl

  pub rising_filter_map : (xs : List X) → IsRising cmp key xs → IsRising cmp to (filter_map f xs)
  rising_filter_map [] h = tt
  rising_filter_map (x ∷ xs) h = elim (f x) as (λ o. f x ≡ o → IsRising cmp to (cons_option o (filter_map f xs))) [
    | None ↦ λ e. rising_filter_map xs h.1
    | Some y ↦ λ e. (
      subst (λ k. AreAbove cmp to k (filter_map f xs)) (sym (keeps x y e))
          (above_filter_map (key x) xs h.0),
      rising_filter_map xs h.1,
    )
  ] refl

  pub at_key_filter_map : (xs : List X) (k : K) → IsRising cmp key xs →
      at_key cmp to (filter_map f xs) k ≡ option_and_then f (at_key cmp key xs k)
  at_key_filter_map [] k h = refl
  at_key_filter_map (x ∷ xs) k h = elim (f x) as (λ o. f x ≡ o →
      at_key cmp to (cons_option o (filter_map f xs)) k ≡ option_and_then f
      (if is_eq (cmp (key x) k) then Some x else at_key cmp key xs k)) [
        | None ↦ λ e. (elim (cmp (key x) k) as (λ o. cmp (key x) k ≡ o →
            at_key cmp to (filter_map f xs) k ≡ option_and_then f (if is_eq o then Some x else at_key cmp key xs k)) [
              | Less ↦ λ t. at_key_filter_map xs k h.1
              | Equal ↦ λ t. at_key_above cmp total to (key x) k (filter_map f xs) (above_filter_map (key x) xs h.0) t ∙ sym e
              | Greater ↦ λ t. at_key_filter_map xs k h.1
            ] refl)
        | Some y ↦ λ e. ap (λ o. if is_eq (cmp o k) then Some y else at_key cmp to (filter_map f xs) k) (keeps x y e)
            ∙ (elim (is_eq (cmp (key x) k)) as
            (λ b. (if b then Some y else at_key cmp to (filter_map f xs) k) ≡ option_and_then f
            (if b then Some x else at_key cmp key xs k)) [
              | true ↦ sym e
              | false ↦ at_key_filter_map xs k h.1
            ])
      ] refl

module _ {K X Y : Type 0} (cmp : K → K → Ordering) (key : X → K) (to : Y → K) (f : X → Y) (keeps : (x : X) →
    to (f x) ≡ key x) where
  pub above_map : (k : K) (xs : List X) → AreAbove cmp key k xs → AreAbove cmp to k (map f xs)
  above_map k [] h = tt
  above_map k (x ∷ xs) h = (ap (cmp k) (keeps x) ∙ h.0, above_map k xs h.1)

  pub rising_map : (xs : List X) → IsRising cmp key xs → IsRising cmp to (map f xs)
  rising_map [] h = tt
  rising_map (x ∷ xs) h = (
    subst (λ k. AreAbove cmp to k (map f xs)) (sym (keeps x)) (above_map (key x) xs h.0),
    rising_map xs h.1,
  )

  pub at_key_map : (xs : List X) (k : K) → at_key cmp to (map f xs) k ≡ option_map f (at_key cmp key xs k)
  at_key_map [] k = refl
  at_key_map (x ∷ xs) k = ap (λ t. if is_eq (cmp t k) then Some (f x) else at_key cmp to (map f xs) k) (keeps x)
      ∙ (elim (is_eq (cmp (key x) k)) as (λ b. (if b then Some (f x) else at_key cmp to (map f xs) k) ≡ option_map f
      (if b then Some x else at_key cmp key xs k)) [
        | true ↦ refl
        | false ↦ at_key_map xs k
      ])
