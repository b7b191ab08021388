-- Laws of lists whose keys rise: what stands at a key after an edit, and what a binary search finds.
use Rattle.std.specs.Prelude.{◌++◌, ℕ, ◌<◌, ◌≡◌, List, [], ◌∷◌, Option, Some, None, Result, Ok, Err, true, false, if◌then◌else◌, length}
use Rattle.std.proofs.Common.{zero, suc, refl, sym, ap, ◌∙◌, get_or, set, add-one, arith, IfOk, IfErr}
use Rattle.std.specs.List.{insert, remove, AllByRecursion}
use Rattle.std.specs.declared.cmp.Ordering.{Ordering}
use Rattle.std.specs.declared.cmp.Ordering.TheVariants.{Less, Equal, Greater}
use Rattle.std.specs.Ordering.{is_eq, is_lt, ordering_reverse}
use Rattle.std.specs.Cmp.{IsTotalOrder}
use Rattle.std.specs.List.Sorted.{IsSearchInRange, IsBinarySearchResult, IsSortedBy}
use Rattle.std.proofs.lemmas.Cmp.{alike_right}
use Rattle.std.proofs.lemmas.List.Sorted.{searchable_from_sorted}
use Rattle.rising_lists.specs.Keyed.{at_key, put, put_by, without, AreAbove, IsRising}
use Rattle.rising_lists.specs.Places.{IsAt, IsGap, Finds, Misses}

greater_back : {K : Type 0} {R : K → K → Ordering} → IsTotalOrder R → (x y : K) → R x y ≡ Less → R y x ≡ Greater
greater_back {R} o x y e = o.antisymm y x ∙ ap ordering_reverse e

less_back : {K : Type 0} {R : K → K → Ordering} → IsTotalOrder R → (x y : K) → R x y ≡ Greater → R y x ≡ Less
less_back {R} o x y e = o.antisymm y x ∙ ap ordering_reverse e

module _ {K X : Type 0} (cmp : K → K → Ordering) (total : IsTotalOrder cmp) (key : X → K) where
  pub above_all : (k : K) (xs : List X) (j : ℕ) (d : X) → AreAbove cmp key k xs → j < length xs → cmp k (key (get_or xs j d)) ≡ Less
  above_all k [] j d h l = absurd (omega arith)
  above_all k (x ∷ xs) zero d h l = h.0
  above_all k (x ∷ xs) (suc j) d h l = above_all k xs j d h.1 (omega arith)

  pub above_more : (k m : K) (xs : List X) → cmp k m ≡ Less → AreAbove cmp key m xs → AreAbove cmp key k xs
  above_more k m [] l h = tt
  above_more k m (x ∷ xs) l h = (total.trans k m (key x) l h.0, above_more k m xs l h.1)

  pub above_same : (k m : K) (xs : List X) → cmp k m ≡ Equal → AreAbove cmp key m xs → AreAbove cmp key k xs
  above_same k m [] e h = tt
  above_same k m (x ∷ xs) e h = (total.congr k m (key x) e ∙ h.0, above_same k m xs e h.1)

  rising_pair : (xs : List X) (i : ℕ) (d : X) → IsRising cmp key xs → suc i < length xs → is_lt (cmp (key (get_or xs (suc i) d)) (key (get_or xs i d))) ≡ false
  rising_pair [] i d h l = absurd (omega arith)
  rising_pair (x ∷ xs) zero d h l = ap is_lt (greater_back total (key x) (key (get_or xs 0 d)) (above_all (key x) xs 0 d h.0 (omega arith)))
  rising_pair (x ∷ xs) (suc i) d h l = rising_pair xs i d h.1 (omega arith)

  pub sorted_of_rising : (xs : List X) → IsRising cmp key xs → IsSortedBy (λ a b. is_lt (cmp (key a) (key b))) xs
  sorted_of_rising xs h i d low l = rw add-one (rising_pair xs i d h (omega arith))

  pub rising_far : (xs : List X) (j i : ℕ) (d : X) → IsRising cmp key xs → j < i → i < length xs → cmp (key (get_or xs j d)) (key (get_or xs i d)) ≡ Less
  rising_far [] j i d h lt l = absurd (omega arith)
  rising_far (x ∷ xs) j zero d h lt l = absurd (omega arith)
  rising_far (x ∷ xs) zero (suc i) d h lt l = above_all (key x) xs i d h.0 (omega arith)
  rising_far (x ∷ xs) (suc j) (suc i) d h lt l = rising_far xs j i d h.1 (omega arith) (omega arith)

  -- what a binary search by the key found
  pub searched : (xs : List X) (k : K) (r : Result ℕ ℕ) → IsRising cmp key xs → IsSearchInRange r (length xs) → IsBinarySearchResult (λ x. cmp (key x) k) xs r → record { found : IfOk r (IsAt cmp key xs k); absent : IfErr r (IsGap cmp key xs k) }
  searched xs k (Ok i) h l at = record {
    found = record {
      within = l;
      before = λ j d lt. sym (alike_right total (key (get_or xs i d)) k (key (get_or xs j d)) (at d)) ∙ rising_far xs j i d h lt l;
      here = at;
    };
    absent = tt;
  }
  searched xs k (Err i) h l parted =
      let p = parted (searchable_from_sorted total key xs k (sorted_of_rising xs h)) in
      record { found = tt; absent = record { within = l; before = λ j d lt. p.0 j d (omega arith) lt; after = λ j d le lt. p.1 j d le lt } }

  pub at_tail : (x : X) (xs : List X) (k : K) (i : ℕ) → IsAt cmp key (x ∷ xs) k (suc i) → IsAt cmp key xs k i
  at_tail x xs k i h = record { within = omega (arith, h.within); before = λ j d lt. h.before (suc j) d (omega arith); here = h.here }

  pub gap_tail : (x : X) (xs : List X) (k : K) (i : ℕ) → IsGap cmp key (x ∷ xs) k (suc i) → IsGap cmp key xs k i
  gap_tail x xs k i h = record {
    within = omega (arith, h.within);
    before = λ j d lt. h.before (suc j) d (omega arith);
    after = λ j d le lt. h.after (suc j) d (omega arith) (omega arith);
  }

  pub gap_first : (x : X) (xs : List X) (k : K) → IsGap cmp key (x ∷ xs) k zero → IsGap cmp key xs k zero
  gap_first x xs k h = record { within = omega arith; before = λ j d lt. absurd (omega arith); after = λ j d le lt. h.after (suc j) d (omega arith) (omega arith) }

  -- at a place that has the key
  pub at_key_here : (xs : List X) (k : K) (i : ℕ) (d : X) → IsAt cmp key xs k i → at_key cmp key xs k ≡ Some (get_or xs i d)
  at_key_here [] k i d h = absurd (omega (arith, h.within))
  at_key_here (x ∷ xs) k zero d h = rw (h.here x)
  at_key_here (x ∷ xs) k (suc i) d h = rw (h.before 0 x (omega arith)) (at_key_here xs k i d (at_tail x xs k i h))

  pub put_here : (xs : List X) (k : K) (i : ℕ) (y : X) → IsAt cmp key xs k i → cmp (key y) k ≡ Equal → put cmp key y xs ≡ set xs i y
  put_here [] k i y h e = absurd (omega (arith, h.within))
  put_here (x ∷ xs) k zero y h e = rw (alike_right total (key x) k (key y) (h.here x), e)
  put_here (x ∷ xs) k (suc i) y h e =
      rw (total.congr (key y) k (key x) e, greater_back total (key x) k (h.before 0 x (omega arith))) (ap (λ t. x ∷ t) (put_here xs k i y (at_tail x xs k i h) e))

  pub without_here : (xs : List X) (k : K) (i : ℕ) → IsAt cmp key xs k i → without cmp key k xs ≡ remove xs i
  without_here [] k i h = absurd (omega (arith, h.within))
  without_here (x ∷ xs) k zero h = rw (h.here x)
  without_here (x ∷ xs) k (suc i) h = rw (h.before 0 x (omega arith)) (ap (λ t. x ∷ t) (without_here xs k i (at_tail x xs k i h)))

  -- at a gap
  pub at_key_gap : (xs : List X) (k : K) (i : ℕ) → IsGap cmp key xs k i → at_key cmp key xs k ≡ None
  at_key_gap [] k i h = refl
  at_key_gap (x ∷ xs) k zero h = rw (h.after 0 x (omega arith) (omega arith)) (at_key_gap xs k zero (gap_first x xs k h))
  at_key_gap (x ∷ xs) k (suc i) h = rw (h.before 0 x (omega arith)) (at_key_gap xs k i (gap_tail x xs k i h))

  pub put_gap : (xs : List X) (k : K) (i : ℕ) (y : X) → IsGap cmp key xs k i → cmp (key y) k ≡ Equal → put cmp key y xs ≡ insert xs i y
  put_gap [] k zero y h e = refl
  put_gap [] k (suc i) y h e = absurd (omega (arith, h.within))
  put_gap (x ∷ xs) k zero y h e = rw (total.congr (key y) k (key x) e, less_back total (key x) k (h.after 0 x (omega arith) (omega arith)))
  put_gap (x ∷ xs) k (suc i) y h e =
      rw (total.congr (key y) k (key x) e, greater_back total (key x) k (h.before 0 x (omega arith))) (ap (λ t. x ∷ t) (put_gap xs k i y (gap_tail x xs k i h) e))

  -- an edit keeps the order
  put_above : (m : K) (y : X) (xs : List X) → cmp m (key y) ≡ Less → AreAbove cmp key m xs → AreAbove cmp key m (put cmp key y xs)
  put_above m y [] l h = (l, tt)
  put_above m y (x ∷ xs) l h = elim (cmp (key y) (key x)) as (λ o. AreAbove cmp key m (put_by o y x xs (put cmp key y xs))) [
    | Less ↦ (l, h)
    | Equal ↦ (l, h.1)
    | Greater ↦ (h.0, put_above m y xs l h.1)
  ]

  pub put_rising : (y : X) (xs : List X) → IsRising cmp key xs → IsRising cmp key (put cmp key y xs)
  put_rising y [] h = (tt, tt)
  put_rising y (x ∷ xs) h = elim (cmp (key y) (key x)) as (λ o. cmp (key y) (key x) ≡ o → IsRising cmp key (put_by o y x xs (put cmp key y xs))) [
    | Less ↦ λ e. ((e, above_more (key y) (key x) xs e h.0), h)
    | Equal ↦ λ e. (above_same (key y) (key x) xs e h.0, h.1)
    | Greater ↦ λ e. (put_above (key x) y xs (less_back total (key y) (key x) e) h.0, put_rising y xs h.1)
  ] refl

  without_above : (m k : K) (xs : List X) → AreAbove cmp key m xs → AreAbove cmp key m (without cmp key k xs)
  without_above m k [] h = tt
  without_above m k (x ∷ xs) h = elim (is_eq (cmp (key x) k)) as (λ b. AreAbove cmp key m (if b then xs else x ∷ without cmp key k xs)) [
    | true ↦ h.1
    | false ↦ (h.0, without_above m k xs h.1)
  ]

  pub without_rising : (k : K) (xs : List X) → IsRising cmp key xs → IsRising cmp key (without cmp key k xs)
  without_rising k [] h = tt
  without_rising k (x ∷ xs) h = elim (is_eq (cmp (key x) k)) as (λ b. IsRising cmp key (if b then xs else x ∷ without cmp key k xs)) [
    | true ↦ h.1
    | false ↦ (without_above (key x) k xs h.0, without_rising k xs h.1)
  ]

  pub at_key_above : (m k : K) (xs : List X) → AreAbove cmp key m xs → cmp m k ≡ Equal → at_key cmp key xs k ≡ None
  at_key_above m k [] h e = refl
  at_key_above m k (x ∷ xs) h e =
      let l : cmp (key x) k ≡ Greater = sym (alike_right total m k (key x) e) ∙ greater_back total m (key x) h.0 in
      rw l (at_key_above m k xs h.1 e)

  -- what stands at a key after an edit
  pub at_key_put : (y : X) (xs : List X) (k : K) → at_key cmp key (put cmp key y xs) k ≡ (if is_eq (cmp (key y) k) then Some y else at_key cmp key xs k)
  at_key_put y [] k = refl
  at_key_put y (x ∷ xs) k = elim (cmp (key y) (key x)) as (λ o. cmp (key y) (key x) ≡ o → at_key cmp key (put_by o y x xs (put cmp key y xs)) k ≡ (if is_eq (cmp (key y) k) then Some y else at_key cmp key (x ∷ xs) k)) [
    | Less ↦ λ e. refl
    | Equal ↦ λ e. rw (total.congr (key y) (key x) k e) (elim (is_eq (cmp (key x) k)) as (λ b. (if b then Some y else at_key cmp key xs k) ≡ (if b then Some y else (if b then Some x else at_key cmp key xs k))) [ true ↦ refl | false ↦ refl ])
    | Greater ↦ λ e. rw (at_key_put y xs k) (elim (cmp (key x) k) as (λ o. cmp (key x) k ≡ o → (if is_eq o then Some x else (if is_eq (cmp (key y) k) then Some y else at_key cmp key xs k)) ≡ (if is_eq (cmp (key y) k) then Some y else (if is_eq o then Some x else at_key cmp key xs k))) [
      | Less ↦ λ f. refl
      | Equal ↦ λ f. let g : cmp (key y) k ≡ Greater = sym (alike_right total (key x) k (key y) f) ∙ e in rw g
      | Greater ↦ λ f. refl
    ] refl)
  ] refl

  -- two different keys are not both k
  pub one_key : {T : Type 0} (a b k : K) (u v w : T) → is_eq (cmp a b) ≡ false → (if is_eq (cmp a k) then u else (if is_eq (cmp b k) then v else w)) ≡ (if is_eq (cmp b k) then v else (if is_eq (cmp a k) then u else w))
  one_key a b k u v w e = elim (cmp a k) as (λ o. cmp a k ≡ o → (if is_eq o then u else (if is_eq (cmp b k) then v else w)) ≡ (if is_eq (cmp b k) then v else (if is_eq o then u else w))) [
    | Less ↦ λ f. refl
    | Equal ↦ λ f. rw (not_also f)
    | Greater ↦ λ f. refl
  ] refl
    where
      not_also : cmp a k ≡ Equal → is_eq (cmp b k) ≡ false
      not_also f = elim (cmp b k) as (λ o. cmp b k ≡ o → is_eq o ≡ false) [
        | Less ↦ λ g. refl
        | Equal ↦ λ g. sym (ap is_eq (alike_right total b k a g ∙ f)) ∙ e
        | Greater ↦ λ g. refl
      ] refl

  pub at_key_without : (xs : List X) (m k : K) → IsRising cmp key xs → at_key cmp key (without cmp key m xs) k ≡ (if is_eq (cmp m k) then None else at_key cmp key xs k)
  at_key_without [] m k h = elim (is_eq (cmp m k)) as (λ b. ◌≡◌ {A = Option X} None (if b then None else None)) [ true ↦ refl | false ↦ refl ]
  at_key_without (x ∷ xs) m k h = elim (cmp (key x) m) as (λ o. cmp (key x) m ≡ o → at_key cmp key (if is_eq o then xs else x ∷ without cmp key m xs) k ≡ (if is_eq (cmp m k) then None else at_key cmp key (x ∷ xs) k)) [
    | Less ↦ λ e. rw (at_key_without xs m k h.1) (one_key (key x) m k (Some x) None (at_key cmp key xs k) (ap is_eq e))
    | Equal ↦ λ e. rw (sym (total.congr (key x) m k e)) (elim (cmp (key x) k) as (λ o. cmp (key x) k ≡ o → at_key cmp key xs k ≡ (if is_eq o then None else (if is_eq o then Some x else at_key cmp key xs k))) [
      | Less ↦ λ f. refl
      | Equal ↦ λ f. at_key_above (key x) k xs h.0 f
      | Greater ↦ λ f. refl
    ] refl)
    | Greater ↦ λ e. rw (at_key_without xs m k h.1) (one_key (key x) m k (Some x) None (at_key cmp key xs k) (ap is_eq e))
  ] refl

  pub without_gap : (xs : List X) (k : K) (i : ℕ) → IsGap cmp key xs k i → without cmp key k xs ≡ xs
  without_gap [] k i h = refl
  without_gap (x ∷ xs) k zero h = rw (h.after 0 x (omega arith) (omega arith)) (ap (λ t. x ∷ t) (without_gap xs k zero (gap_first x xs k h)))
  without_gap (x ∷ xs) k (suc i) h = rw (h.before 0 x (omega arith)) (ap (λ t. x ∷ t) (without_gap xs k i (gap_tail x xs k i h)))

  above_append : (k : K) (xs : List X) (y : X) → AreAbove cmp key k xs → cmp k (key y) ≡ Less → AreAbove cmp key k (xs ++ (y ∷ []))
  above_append k [] y h l = (l, tt)
  above_append k (x ∷ xs) y h l = (h.0, above_append k xs y h.1 l)

  -- a list with one more element above all others
  pub rising_append : (xs : List X) (y : X) → IsRising cmp key xs → AllByRecursion (λ x. cmp (key x) (key y) ≡ Less) xs → IsRising cmp key (xs ++ (y ∷ []))
  rising_append [] y h l = (tt, tt)
  rising_append (x ∷ xs) y h l = (above_append (key x) xs y h.0 l.0, rising_append xs y h.1 l.1)

  pub finds : (xs : List X) (k : K) (i : ℕ) → IsAt cmp key xs k i → Finds cmp key xs k i
  finds xs k i h = record {
    within = h.within;
    at = λ d. at_key_here xs k i d h;
    put = λ y e. put_here xs k i y h e;
    without = without_here xs k i h;
  }

  pub misses : (xs : List X) (k : K) (i : ℕ) → IsGap cmp key xs k i → Misses cmp key xs k i
  misses xs k i h = record {
    within = h.within;
    at = at_key_gap xs k i h;
    put = λ y e. put_gap xs k i y h e;
    without = without_gap xs k i h;
  }

  -- what a binary search by the key finds
  pub found : (xs : List X) (k : K) (r : Result ℕ ℕ) → IsRising cmp key xs → IsSearchInRange r (length xs) → IsBinarySearchResult (λ x. cmp (key x) k) xs r → IfOk r (Finds cmp key xs k) × IfErr r (Misses cmp key xs k)
  found xs k (Ok i) h l at = (finds xs k i (searched xs k (Ok i) h l at).found, tt)
  found xs k (Err i) h l parted = (tt, misses xs k i (searched xs k (Err i) h l parted).absent)
