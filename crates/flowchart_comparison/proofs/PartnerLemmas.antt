-- Partners that are told of together, one new text after the other.
use Rattle.std.proofs.Common.{◌≡◌, ℕ, ◌+◌, ◌<◌, ◌≤◌, ◌⊎◌, inl, inr, Bool, true, false, eqb, List, [], ◌∷◌, ◌++◌, length, get_or, refl, sym, ap, subst, ◌∙◌, arith, if◌then◌else◌}
use Rattle.std.specs.Prelude.{Option, Some, None}
use Rattle.std.specs.List.{Contains}
use Rattle.std.proofs.lemmas.Bool.Decides.{eqb_tells}
use Rattle.std.proofs.lemmas.List.{get_or-set_other}
use Rattle.std.proofs.lemmas.List.Elements.{Contains-append_left, Contains-append_right}
use Rattle.flowchart_comparison.specs.declared.entry.Entry.{Entry}
use Rattle.flowchart_comparison.specs.declared.entry.Entry.TheVariants.{Same, Changed, Gone, New}
use Rattle.flowchart_comparison.specs.Entries.{old_place, new_of, ArePartners, IsPair, PairsNames}
use Rattle.flowchart_comparison.specs.private.AlignmentViews.{AreFlags, IsTaken, free_one}
use Rattle.flowchart_comparison.specs.private.NameViews.{ProposesPartners}

pub pair_more : (es es' more : List Entry) (i j : ℕ) → es' ≡ es ++ more → IsPair es i j → IsPair es' i j
pair_more es es' more i j is (inl h) = inl (subst (λ l. Contains l (Same i j)) (sym is) (Contains-append_left es more (Same i j) h))
pair_more es es' more i j is (inr h) = inr (subst (λ l. Contains l (Changed i j)) (sym is) (Contains-append_left es more (Changed i j) h))

only : (e : Entry) → Contains (e ∷ []) e
only e = (0, omega arith, refl)

one_place : (a b : ℕ) → a ∷ [] ≡ b ∷ [] → a ≡ b
one_place a b e = ap (λ l. get_or l 0 0) e

some_place : (a b : ℕ) → Some a ≡ Some b → a ≡ b
some_place a b e = cc

none_some : (a : ℕ) → None ≡ Some a → ⊥
none_some a e = cc

none_one : (a : ℕ) → [] ≡ a ∷ [] → ⊥
none_one a e = cc

-- an entry that names both places
pub pair_one : (e : Entry) (i j : ℕ) → old_place e ≡ Some i → new_of e ≡ j ∷ [] → IsPair (e ∷ []) i j
pair_one (Same a b) i j old new =
    inl (subst (λ k. Contains (Same a b ∷ []) (Same k j)) (some_place a i old)
    (subst (λ k. Contains (Same a b ∷ []) (Same a k)) (one_place b j new) (only (Same a b))))
pair_one (Changed a b) i j old new =
    inr (subst (λ k. Contains (Changed a b ∷ []) (Changed k j)) (some_place a i old)
    (subst (λ k. Contains (Changed a b ∷ []) (Changed a k)) (one_place b j new) (only (Changed a b))))
pair_one (Gone a) i j old new = absurd (none_one j new)
pair_one (New b) i j old new = absurd (none_some i old)

pair_push : (es es' : List Entry) (e : Entry) (i j : ℕ) → es' ≡ es ++ (e ∷ []) → IsPair (e ∷ []) i j → IsPair es' i j
pair_push es es' e i j is (inl h) = inl (subst (λ l. Contains l (Same i j)) (sym is) (Contains-append_right es (e ∷ []) (Same i j) h))
pair_push es es' e i j is (inr h) = inr (subst (λ l. Contains l (Changed i j)) (sym is) (Contains-append_right es (e ∷ []) (Changed i j) h))

-- the partners of the first new texts are told of together, and those of the others are free
pub record ArePaired (old new : List (List ℕ)) (free : List Bool) (j : ℕ) (es : List Entry) : Type 0 where
  pub told : (i k : ℕ) → ArePartners old new i k → k < j → IsPair es i k
  pub left : (i k : ℕ) → ArePartners old new i k → j ≤ k → get_or free i false ≡ true

taken_is : (free : List Bool) (o : Option ℕ) (i : ℕ) → free_one free o ≡ Some i → o ≡ Some i
taken_is free None i is = is
taken_is free (Some k) i is = by (get_or free k false) is
  where
    by : (b : Bool) → (if b then Some k else None) ≡ Some i → Some k ≡ Some i
    by true e = e
    by false e = absurd (none_some i e)

module _ (old new : List (List ℕ)) where
  pub paired_none : (free : List Bool) (es : List Entry) → AreFlags (length old) free → ArePaired old new free 0 es
  paired_none free es flags = record {
    told = λ i k p lt. absurd (omega arith);
    left = λ i k p le. flags.all i p.old_within;
  }

  module _ (proposed : List (Option ℕ)) (partners : ProposesPartners old new proposed) (free free' : List Bool) (j : ℕ) (e : Entry)
      (es es' : List Entry) (h : ArePaired old new free j es) (within : j < length new)
      (chosen : old_place e ≡ free_one free (get_or proposed j None)) (new_is : new_of e ≡ j ∷ [])
      (taken : IsTaken free free' (old_place e)) (is : es' ≡ es ++ (e ∷ [])) where
    told_here : (i : ℕ) → ArePartners old new i j → IsPair es' i j
    told_here i p =
        let old_is : old_place e ≡ Some i =
        chosen ∙ ap (free_one free) (partners.partner i j p)
        ∙ ap (λ b. if b then Some i else None) (h.left i j p (omega arith)) in
        pair_push es es' e i j is (pair_one e i j old_is new_is)

    free_still : (i k : ℕ) (o : Option ℕ) → ArePartners old new i k → j + 1 ≤ k → old_place e ≡ o → IsTaken free free' o
        → get_or free' i false ≡ true
    free_still i k None p le at same = ap (λ l. get_or l i false) same ∙ h.left i k p (omega arith)
    free_still i k (Some m) p le at (lt, was, now) = by (eqb_tells m i)
      where
        by : ((eqb m i ≡ true) × (m ≡ i)) ⊎ ((eqb m i ≡ false) × (m ≡ i → ⊥)) → get_or free' i false ≡ true
        by (inl (t, same)) =
            let is_i : get_or proposed j None ≡ Some i =
            taken_is free (get_or proposed j None) m (sym chosen ∙ at) ∙ ap (λ n. Some n) same in
            let here : j ≡ k = partners.alone i k j p within is_i in
            absurd (omega (arith, here))
        by (inr (t, other)) =
            ap (λ l. get_or l i false) now
            ∙ get_or-set_other free m i false false (λ x. other (sym x)) ∙ h.left i k p (omega arith)

    pub paired_more : ArePaired old new free' (j + 1) es'
    paired_more = record {
      told = λ i k p lt. by i k p (eqb_tells k j) lt;
      left = λ i k p le. free_still i k (old_place e) p le refl taken;
    }
      where
        by : (i k : ℕ) → ArePartners old new i k → ((eqb k j ≡ true) × (k ≡ j)) ⊎ ((eqb k j ≡ false) × (k ≡ j → ⊥)) → k < j + 1 → IsPair es' i k
        by i k p (inl (t, same)) lt =
            subst (λ n. IsPair es' i n) (sym same) (told_here i (subst (λ n. ArePartners old new i n) same p))
        by i k p (inr (t, other)) lt = pair_more es es' (e ∷ []) i k is (h.told i k p (omega (arith, other)))

  pub paired_each : (free : List Bool) (j : ℕ) (es : List Entry) → length new ≤ j → ArePaired old new free j es → PairsNames old new es
  paired_each free j es le h = λ i k p. let lt = p.new_within in h.told i k p (omega (arith, lt))

  pub named_more : (es es' more : List Entry) → PairsNames old new es → es' ≡ es ++ more → PairsNames old new es'
  named_more es es' more h is = λ i k p. pair_more es es' more i k is (h i k p)
