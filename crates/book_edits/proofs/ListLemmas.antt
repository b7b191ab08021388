-- Lists whose keys rise: seen through a map, edited element by element, and added up.
use Rattle.std.proofs.Common.{◌≡◌, ℕ, ◌+◌, ◌<◌, List, [], ◌∷◌, length, map, true, false, if◌then◌else◌, Option, Some, None, option_map, refl, sym, ap, ◌∙◌, arith, sum_by}
use Rattle.std.specs.List.{AllByRecursion}
use Rattle.std.specs.declared.cmp.Ordering.{Ordering}
use Rattle.std.specs.declared.cmp.Ordering.TheVariants.{Less, Equal, Greater}
use Rattle.std.specs.Ordering.{is_eq, ordering_reverse}
use Rattle.std.specs.Cmp.{IsTotalOrder}
use Rattle.std.proofs.lemmas.Cmp.{tied_itself, tied_back}
use Rattle.std.proofs.lemmas.List.Sums.{sum_by-cons}
use Rattle.rising_lists.specs.Keyed.{at_key, put, put_by, without, AreAbove, IsRising}

-- ---- the elements of a list with a key of their images

module _ {K X Y : Type 0} (cmp : K → K → Ordering) (key : Y → K) (f : X → Y) where
  pub at_key_map : (xs : List X) (k : K) → at_key cmp key (map f xs) k ≡ option_map f (at_key cmp (λ x. key (f x)) xs k)
  at_key_map [] k = refl
  at_key_map (x ∷ xs) k = elim (is_eq (cmp (key (f x)) k)) as (λ b. (if b then Some (f x) else at_key cmp key (map f xs) k) ≡ option_map f (if b then Some x else at_key cmp (λ x. key (f x)) xs k)) [
    | true ↦ refl
    | false ↦ at_key_map xs k
  ]

  pub map_put : (y : X) (xs : List X) → map f (put cmp (λ x. key (f x)) y xs) ≡ put cmp key (f y) (map f xs)
  map_put y [] = refl
  map_put y (x ∷ xs) = elim (cmp (key (f y)) (key (f x))) as (λ o. map f (put_by o y x xs (put cmp (λ x. key (f x)) y xs)) ≡ put_by o (f y) (f x) (map f xs) (put cmp key (f y) (map f xs))) [
    | Less ↦ refl
    | Equal ↦ refl
    | Greater ↦ ap (λ t. f x ∷ t) (map_put y xs)
  ]

  pub map_without : (k : K) (xs : List X) → map f (without cmp (λ x. key (f x)) k xs) ≡ without cmp key k (map f xs)
  map_without k [] = refl
  map_without k (x ∷ xs) = elim (is_eq (cmp (key (f x)) k)) as (λ b. map f (if b then xs else x ∷ without cmp (λ x. key (f x)) k xs) ≡ (if b then map f xs else f x ∷ without cmp key k (map f xs))) [
    | true ↦ refl
    | false ↦ ap (λ t. f x ∷ t) (map_without k xs)
  ]

  above_map : (k : K) (xs : List X) → AreAbove cmp key k (map f xs) → AreAbove cmp (λ x. key (f x)) k xs
  above_map k [] h = tt
  above_map k (x ∷ xs) h = (h.0, above_map k xs h.1)

  pub rising_map : (xs : List X) → IsRising cmp key (map f xs) → IsRising cmp (λ x. key (f x)) xs
  rising_map [] h = tt
  rising_map (x ∷ xs) h = (above_map (key (f x)) xs h.0, rising_map xs h.1)

  map_above : (k : K) (xs : List X) → AreAbove cmp (λ x. key (f x)) k xs → AreAbove cmp key k (map f xs)
  map_above k [] h = tt
  map_above k (x ∷ xs) h = (h.0, map_above k xs h.1)

  pub map_rising : (xs : List X) → IsRising cmp (λ x. key (f x)) xs → IsRising cmp key (map f xs)
  map_rising [] h = tt
  map_rising (x ∷ xs) h = (map_above (key (f x)) xs h.0, map_rising xs h.1)

-- ---- what holds of each element holds after an edit

module _ {K X : Type 0} (cmp : K → K → Ordering) (key : X → K) (P : X → Type 0) where
  pub all_put : (y : X) (xs : List X) → P y → AllByRecursion P xs → AllByRecursion P (put cmp key y xs)
  all_put y [] p all = (p, tt)
  all_put y (x ∷ xs) p all = elim (cmp (key y) (key x)) as (λ o. AllByRecursion P (put_by o y x xs (put cmp key y xs))) [
    | Less ↦ (p, all)
    | Equal ↦ (p, all.1)
    | Greater ↦ (all.0, all_put y xs p all.1)
  ]

  pub all_without : (k : K) (xs : List X) → AllByRecursion P xs → AllByRecursion P (without cmp key k xs)
  all_without k [] all = tt
  all_without k (x ∷ xs) all = elim (is_eq (cmp (key x) k)) as (λ b. AllByRecursion P (if b then xs else x ∷ without cmp key k xs)) [
    | true ↦ all.1
    | false ↦ (all.0, all_without k xs all.1)
  ]

module _ {K X : Type 0} (cmp : K → K → Ordering) (key : X → K) where
  pub put_some : (y : X) (xs : List X) → 0 < length (put cmp key y xs)
  put_some y [] = omega arith
  put_some y (x ∷ xs) = elim (cmp (key y) (key x)) as (λ o. 0 < length (put_by o y x xs (put cmp key y xs))) [
    | Less ↦ omega arith
    | Equal ↦ omega arith
    | Greater ↦ omega arith
  ]

  -- the element at a key has that key
  pub at_key_tied : (xs : List X) (k : K) (y : X) → at_key cmp key xs k ≡ Some y → cmp (key y) k ≡ Equal
  at_key_tied [] k y e = cc
  at_key_tied (x ∷ xs) k y e = elim (cmp (key x) k) as (λ o. cmp (key x) k ≡ o → (if is_eq o then Some x else at_key cmp key xs k) ≡ Some y → cmp (key y) k ≡ Equal) [
    | Less ↦ λ t h. at_key_tied xs k y h
    | Equal ↦ λ t h. let same : x ≡ y = cc in ap (λ z. cmp (key z) k) (sym same) ∙ t
    | Greater ↦ λ t h. at_key_tied xs k y h
  ] refl e

-- ---- sums after an edit

abbrev pub weight : {X : Type 0} → (X → ℕ) → Option X → ℕ
weight f None = 0
weight f (Some x) = f x

module _ {K X : Type 0} (cmp : K → K → Ordering) (total : IsTotalOrder cmp) (key : X → K) where
  lift : (x : X) (xs ys : List X) → AreAbove cmp key (key x) ys → AllByRecursion (λ y. at_key cmp key xs (key y) ≡ Some y) ys → AllByRecursion (λ y. at_key cmp key (x ∷ xs) (key y) ≡ Some y) ys
  lift x xs [] above each = tt
  lift x xs (y ∷ ys) above each = (ap (λ o. if is_eq o then Some x else at_key cmp key xs (key y)) above.0 ∙ each.0, lift x xs ys above.1 each.1)

  -- each element of a rising list stands at its key
  pub found_each : (xs : List X) → IsRising cmp key xs → AllByRecursion (λ y. at_key cmp key xs (key y) ≡ Some y) xs
  found_each [] h = tt
  found_each (x ∷ xs) h = (ap (λ o. if is_eq o then Some x else at_key cmp key xs (key x)) (tied_itself total (key x)), lift x xs xs h.0 (found_each xs h.1))

  -- nothing stands at a key below all others
  none_below : (k : K) (xs : List X) → AreAbove cmp key k xs → at_key cmp key xs k ≡ None
  none_below k [] h = refl
  none_below k (x ∷ xs) h =
      let back : cmp (key x) k ≡ Greater = total.antisymm (key x) k ∙ ap ordering_reverse h.0 in
      ap (λ o. if is_eq o then Some x else at_key cmp key xs k) back ∙ none_below k xs h.1

  above_lower : (k m : K) (xs : List X) → cmp k m ≡ Less → AreAbove cmp key m xs → AreAbove cmp key k xs
  above_lower k m [] l h = tt
  above_lower k m (x ∷ xs) l h = (total.trans k m (key x) l h.0, above_lower k m xs l h.1)

  module _ (f : X → ℕ) where
    -- a put adds the new element's part and takes that of the one which stood there
    pub sum_put : (y : X) (xs : List X) → IsRising cmp key xs → sum_by f (put cmp key y xs) + weight f (at_key cmp key xs (key y)) ≡ sum_by f xs + f y
    sum_put y [] h = omega (arith, sum_by-cons f y [])
    sum_put y (x ∷ xs) h = elim (cmp (key y) (key x)) as (λ o. cmp (key y) (key x) ≡ o → sum_by f (put_by o y x xs (put cmp key y xs)) + weight f (at_key cmp key (x ∷ xs) (key y)) ≡ sum_by f (x ∷ xs) + f y) [
      | Less ↦ λ e.
          let none : at_key cmp key (x ∷ xs) (key y) ≡ None = none_below (key y) (x ∷ xs) (e, above_lower (key y) (key x) xs e h.0) in
          omega (arith, sum_by-cons f y (x ∷ xs), ap (weight f) none)
      | Equal ↦ λ e.
          let here : at_key cmp key (x ∷ xs) (key y) ≡ Some x = ap (λ o. if is_eq o then Some x else at_key cmp key xs (key y)) (tied_back total (key y) (key x) e) in
          omega (arith, sum_by-cons f y xs, sum_by-cons f x xs, ap (weight f) here)
      | Greater ↦ λ e.
          let back : cmp (key x) (key y) ≡ Less = total.antisymm (key x) (key y) ∙ ap ordering_reverse e in
          let there : at_key cmp key (x ∷ xs) (key y) ≡ at_key cmp key xs (key y) = ap (λ o. if is_eq o then Some x else at_key cmp key xs (key y)) back in
          omega (arith, sum_by-cons f x (put cmp key y xs), sum_by-cons f x xs, ap (weight f) there, sum_put y xs h.1)
    ] refl

    -- a removal takes the part of the element that stood there
    pub sum_without : (k : K) (xs : List X) → sum_by f (without cmp key k xs) + weight f (at_key cmp key xs k) ≡ sum_by f xs
    sum_without k [] = refl
    sum_without k (x ∷ xs) = elim (is_eq (cmp (key x) k)) as (λ b. sum_by f (if b then xs else x ∷ without cmp key k xs) + weight f (if b then Some x else at_key cmp key xs k) ≡ sum_by f (x ∷ xs)) [
      | true ↦ omega (arith, sum_by-cons f x xs)
      | false ↦ omega (arith, sum_by-cons f x (without cmp key k xs), sum_by-cons f x xs, sum_without k xs)
    ]

-- the number of elements is a sum
pub length_sum : {X : Type 0} (xs : List X) → length xs ≡ sum_by (λ x. 1) xs
length_sum [] = refl
length_sum (x ∷ xs) = omega (arith, length_sum xs, sum_by-cons (λ x. 1) x xs)

module _ {K X : Type 0} (cmp : K → K → Ordering) (total : IsTotalOrder cmp) (key : X → K) where
  -- a put at a free key is one more
  pub length_put : (y : X) (xs : List X) → IsRising cmp key xs → at_key cmp key xs (key y) ≡ None → length (put cmp key y xs) ≡ length xs + 1
  length_put y xs h free =
      omega (arith, sum_put cmp total key (λ x. 1) y xs h, ap (weight (λ x. 1)) free, length_sum (put cmp key y xs), length_sum xs)

  -- a removal of what stands there is one less
  pub length_without : (k : K) (x : X) (xs : List X) → at_key cmp key xs k ≡ Some x → length (without cmp key k xs) + 1 ≡ length xs
  length_without k x xs there =
      omega (arith, sum_without cmp total key (λ x. 1) k xs, ap (weight (λ x. 1)) there, length_sum (without cmp key k xs), length_sum xs)
