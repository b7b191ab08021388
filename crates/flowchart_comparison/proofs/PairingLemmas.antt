-- Two lists that are paired one new text after the other, with flags of the old texts that are free.
use Rattle.std.proofs.Common.{◌≡◌, ℕ, ◌+◌, ◌<◌, ◌≤◌, Bool, true, false, inl, inr, List, [], ◌∷◌, ◌++◌, length, get_or, refl, sym, ap, subst, ◌∙◌, arith, eqb, cond}
use Rattle.std.specs.Prelude.{All, ◌==◌, count_by, Option, Some, None, option_to_list, slice_set}
use Rattle.std.specs.List.{range_with_len}
use Rattle.std.proofs.lemmas.Grind.{flat_map-append}
use Rattle.std.proofs.lemmas.List.{append-nil, get_or-set_other, get_or-set_same, length-map, length-set}
use Rattle.std.proofs.lemmas.List.Elements.{All-nil, All-push}
use Rattle.std.proofs.lemmas.List.Sums.{sum_by-append}
use Rattle.std.proofs.lemmas.Bool.{eq-eqb}
use Rattle.std.proofs.lemmas.Bool.Decides.{eqb_tells}
use Rattle.flowchart_comparison.specs.declared.entry.Entry.{Entry}
use Rattle.flowchart_comparison.specs.declared.entry.Entry.TheVariants.{Gone}
use Rattle.flowchart_comparison.specs.Outlines.{TextItem}
use Rattle.flowchart_comparison.specs.Comparisons.{item_texts}
use Rattle.flowchart_comparison.specs.Entries.{old_place, old_of, new_of, old_side, new_side, IsTold, IsPairing}
use Rattle.flowchart_comparison.specs.private.AlignmentViews.{AreFlags, IsTaken, gone_where}
use Rattle.flowchart_comparison.proofs.EntryLemmas.{range_append}

-- how often entries name an old place
abbrev pub times : ℕ → List Entry → ℕ
times i es = count_by (λ k. k == i) (old_side es)

times-push : (i : ℕ) (es : List Entry) (e : Entry) → times i (es ++ (e ∷ [])) ≡ times i es + count_by (λ k. k == i) (old_of e)
times-push i es e =
    ap (count_by (λ k. k == i)) (flat_map-append old_of es (e ∷ []) ∙ ap (λ l. old_side es ++ l) (append-nil (old_of e)))
    ∙ sum_by-append (λ k. cond (k == i) 1 0) (old_side es) (old_of e)

-- one place counts once where it is the one, and else not
count_same : (k i : ℕ) → k ≡ i → count_by (λ n. n == i) (k ∷ []) ≡ 1
count_same k i e = ap (λ b. 0 + cond b 1 0) (eq-eqb k i e)

count_other : (k i : ℕ) → eqb k i ≡ false → count_by (λ n. n == i) (k ∷ []) ≡ 0
count_other k i e = ap (λ b. 0 + cond b 1 0) e

-- The first new texts are paired, and the flags tell which old texts are free. Of the free ones those before `from` are told
-- as gone.
pub record IsPaired (old new : List (List ℕ)) (free : List Bool) (from j : ℕ) (es : List Entry) : Type 0 where
  pub many : length free ≡ length old
  pub none : (i : ℕ) → from ≤ i → i < length old → get_or free i false ≡ true → times i es ≡ 0
  pub once : (i : ℕ) → i < length old → get_or free i false ≡ false → times i es ≡ 1
  pub past : (i : ℕ) → i < from → i < length old → times i es ≡ 1
  pub within : All (λ i. i < length old) (old_side es)
  pub in_order : new_side es ≡ range_with_len 0 j
  pub told : All (IsTold old new) es

one_to : (n : ℕ) → range_with_len 0 n ++ (n ∷ []) ≡ range_with_len 0 (n + 1)
one_to n =
    let k : 0 + n ≡ n = omega arith in
    subst (λ m. range_with_len 0 n ++ (m ∷ []) ≡ range_with_len 0 (n + 1)) k (range_append 0 n 1)

module _ (old new : List (List ℕ)) where
  pub paired_start : (free : List Bool) → AreFlags (length old) free → IsPaired old new free 0 0 []
  paired_start free flags = record {
    many = flags.many;
    none = λ i le lt is. refl;
    once = λ i lt is. absurd (true_false (sym (flags.all i lt) ∙ is));
    past = λ i lt lt'. absurd (omega arith);
    within = All-nil (λ i. i < length old);
    in_order = refl;
    told = All-nil (IsTold old new);
  }
    where
      true_false : true ≡ false → ⊥
      true_false e = cc

  -- a new text with an old one that was free, or alone
  pub paired_next : (free free' : List Bool) (j : ℕ) (e : Entry) (es es' : List Entry) → IsPaired old new free 0 j es
      → IsTold old new e → new_of e ≡ j ∷ [] → IsTaken free free' (old_place e) → es' ≡ es ++ (e ∷ [])
      → IsPaired old new free' 0 (j + 1) es'
  paired_next free free' j e es es' h told of_new taken is =
      subst (λ l. IsPaired old new free' 0 (j + 1) l) (sym is) (by (old_place e) refl taken)
    where
      in_order : new_side (es ++ (e ∷ [])) ≡ range_with_len 0 (j + 1)
      in_order =
          flat_map-append new_of es (e ∷ []) ∙ ap (λ l. l ++ (new_of e ++ [])) h.in_order
          ∙ ap (λ l. range_with_len 0 j ++ (l ++ [])) of_new ∙ one_to j

      side : old_side (es ++ (e ∷ [])) ≡ old_side es ++ old_of e
      side = flat_map-append old_of es (e ∷ []) ∙ ap (λ l. old_side es ++ l) (append-nil (old_of e))

      by : (o : Option ℕ) → old_place e ≡ o → IsTaken free free' o → IsPaired old new free' 0 (j + 1) (es ++ (e ∷ []))
      by None at same =
          let no : old_of e ≡ [] = ap option_to_list at in
          let kept : (i : ℕ) → times i (es ++ (e ∷ [])) ≡ times i es =
          λ i. ap (count_by (λ k. k == i)) (side ∙ ap (λ l. old_side es ++ l) no ∙ append-nil (old_side es)) in
          subst (λ f. IsPaired old new f 0 (j + 1) (es ++ (e ∷ []))) (sym same)
          (record {
            many = h.many;
            none = λ i le lt f. kept i ∙ h.none i le lt f;
            once = λ i lt f. kept i ∙ h.once i lt f;
            past = λ i lt lt'. absurd (omega arith);
            within = subst (λ l. All (λ i. i < length old) l) (sym (side ∙ ap (λ l. old_side es ++ l) no ∙ append-nil (old_side es))) h.within;
            in_order = in_order;
            told = All-push (IsTold old new) es e h.told told;
          })
      by (Some k) at (lt_k, was, now) =
          let one : old_of e ≡ k ∷ [] = ap option_to_list at in
          let counted : (i : ℕ) → times i (es ++ (e ∷ [])) ≡ times i es + count_by (λ n. n == i) (k ∷ []) =
          λ i. times-push i es e ∙ ap (λ l. times i es + count_by (λ n. n == i) l) one in
          let k_old : k < length old = omega (arith, h.many) in
          subst (λ f. IsPaired old new f 0 (j + 1) (es ++ (e ∷ []))) (sym now)
          (record {
            many = length-set free k false ∙ h.many;
            none = λ i le lt f.
                elim (eqb_tells k i) [
                  | inl (t, same) ↦
                      let off : get_or (slice_set free k false) i false ≡ false =
                      subst (λ n. get_or (slice_set free k false) n false ≡ false) same (get_or-set_same free k false false lt_k) in
                      absurd (true_false (sym f ∙ off))
                  | inr (t, other) ↦
                      let kept = get_or-set_other free k i false false (λ x. other (sym x)) in
                      let zero_so = h.none i le lt (sym kept ∙ f) in
                      let no = count_other k i t in
                      counted i ∙ omega (arith, zero_so, no)
                ];
            once = λ i lt f.
                elim (eqb_tells k i) [
                  | inl (t, same) ↦
                      let zero_so = h.none k (omega arith) k_old was in
                      let zero_i : times i es ≡ 0 = subst (λ n. times n es ≡ 0) same zero_so in
                      let yes = count_same k i same in
                      counted i ∙ omega (arith, zero_i, yes)
                  | inr (t, other) ↦
                      let kept = get_or-set_other free k i false false (λ x. other (sym x)) in
                      let one_so = h.once i lt (sym kept ∙ f) in
                      let no = count_other k i t in
                      counted i ∙ omega (arith, one_so, no)
                ];
            past = λ i lt lt'. absurd (omega arith);
            within = subst (λ l. All (λ i. i < length old) l) (sym (side ∙ ap (λ l. old_side es ++ l) one))
                (All-push (λ i. i < length old) (old_side es) k h.within k_old);
            in_order = in_order;
            told = All-push (IsTold old new) es e h.told told;
          })
        where
          true_false : true ≡ false → ⊥
          true_false e = cc

  -- an old text that isn't free
  pub taken_next : (free : List Bool) (p j : ℕ) (es : List Entry) → p < length old → get_or free p false ≡ false
      → IsPaired old new free p j es → IsPaired old new free (p + 1) j es
  taken_next free p j es lt off h = record {
    many = h.many;
    none = λ i le lt' f. h.none i (omega arith) lt' f;
    once = h.once;
    past = λ i lt' lt''.
        elim (eqb_tells p i) [
          | inl (t, same) ↦ subst (λ n. times n es ≡ 1) same (h.once p lt off)
          | inr (t, other) ↦ h.past i (omega arith) lt''
        ];
    within = h.within;
    in_order = h.in_order;
    told = h.told;
  }

  -- a free one, which is told as gone
  pub free_next : (free : List Bool) (p j : ℕ) (es es' : List Entry) → p < length old → get_or free p false ≡ true
      → IsPaired old new free p j es → es' ≡ es ++ (Gone p ∷ []) → IsPaired old new free (p + 1) j es'
  free_next free p j es es' lt on h is =
      subst (λ l. IsPaired old new free (p + 1) j l) (sym is)
      (record {
        many = h.many;
        none = λ i le lt' f.
            let no = count_other p i (not_same p i (omega arith)) in
            let zero_so = h.none i (omega arith) lt' f in
            times-push i es (Gone p) ∙ omega (arith, no, zero_so);
        once = λ i lt' f.
            elim (eqb_tells p i) [
              | inl (t, same) ↦ absurd (true_false (sym on ∙ subst (λ n. get_or free n false ≡ false) (sym same) f))
              | inr (t, other) ↦
                  let no = count_other p i t in
                  let one_so = h.once i lt' f in
                  times-push i es (Gone p) ∙ omega (arith, no, one_so)
            ];
        past = λ i lt' lt''.
            elim (eqb_tells p i) [
              | inl (t, same) ↦
                  let zero_so : times i es ≡ 0 = subst (λ n. times n es ≡ 0) same (h.none p (omega arith) lt on) in
                  let yes = count_same p i same in
                  times-push i es (Gone p) ∙ omega (arith, yes, zero_so)
              | inr (t, other) ↦
                  let no = count_other p i t in
                  let one_so = h.past i (omega arith) lt'' in
                  times-push i es (Gone p) ∙ omega (arith, no, one_so)
            ];
        within = subst (λ l. All (λ i. i < length old) l) (sym (flat_map-append old_of es (Gone p ∷ [])))
            (All-push (λ i. i < length old) (old_side es) p h.within lt);
        in_order = flat_map-append new_of es (Gone p ∷ []) ∙ append-nil (new_side es) ∙ h.in_order;
        told = All-push (IsTold old new) es (Gone p) h.told tt;
      })
    where
      true_false : true ≡ false → ⊥
      true_false e = cc

      not_same : (a b : ℕ) → a < b → eqb a b ≡ false
      not_same a b l = elim (eqb_tells a b) [ inl (t, same) ↦ absurd (omega arith) | inr (t, other) ↦ t ]

  -- an old text that is told as gone where it is free
  pub left_next : (free : List Bool) (p j : ℕ) (es es' : List Entry) → p < length old → IsPaired old new free p j es
      → es' ≡ es ++ gone_where (get_or free p false) p → IsPaired old new free (p + 1) j es'
  left_next free p j es es' lt h is = by (get_or free p false) refl is
    where
      by : (b : Bool) → get_or free p false ≡ b → es' ≡ es ++ gone_where b p → IsPaired old new free (p + 1) j es'
      by true on same = free_next free p j es es' lt on h same
      by false off same =
          subst (λ l. IsPaired old new free (p + 1) j l) (sym (same ∙ append-nil es)) (taken_next free p j es lt off h)

  pub paired_all : (free : List Bool) (from : ℕ) (es : List Entry) → length old ≤ from
      → IsPaired old new free from (length new) es → IsPairing old new es
  paired_all free from es le h = record {
    old_once = λ i lt. h.past i (omega arith) lt;
    old_within = h.within;
    new_in_order = h.in_order;
    told = h.told;
  }

pub as_many : (items : List TextItem) → length (item_texts items) ≡ length items
as_many items = length-map items (λ (x : TextItem). x.text)

-- flags of as many old items
pub paired_first : (old new : List TextItem) (free : List Bool) (es : List Entry) → AreFlags (length old) free → es ≡ []
    → IsPaired (item_texts old) (item_texts new) free 0 0 es
paired_first old new free es flags none =
    subst (λ l. IsPaired (item_texts old) (item_texts new) free 0 0 l) (sym none)
    (paired_start (item_texts old) (item_texts new) free (subst (λ n. AreFlags n free) (sym (as_many old)) flags))

pub paired_last : (old new : List TextItem) (free : List Bool) (from j : ℕ) (es : List Entry) → length old ≤ from
    → j ≡ length new → IsPaired (item_texts old) (item_texts new) free from j es
    → IsPairing (item_texts old) (item_texts new) es
paired_last old new free from j es le all h =
    paired_all (item_texts old) (item_texts new) free from es (omega (arith, as_many old))
    (subst (λ n. IsPaired (item_texts old) (item_texts new) free from n es) (all ∙ sym (as_many new)) h)
