-- The search of what a method reaches.
use Rattle.std.proofs.Common.{◌≡◌, ◌≢◌, ℕ, zero, suc, ◌+◌, ◌<◌, ◌≤◌, ◌⊎◌, inl, inr, Bool, true, false, List, [], ◌∷◌, ◌++◌, length, get_or, set, ap, ◌∙◌, refl, sym, subst, arith}
use Rattle.std.specs.Prelude.{Contains, slice_index, MatchBool, replicate, if◌then◌else◌}
use Rattle.std.proofs.lemmas.Bool.{cases_lt, cases_eq}
use Rattle.std.proofs.lemmas.List.{get_or-set_same, get_or-set_other, length-set}
use Rattle.std.proofs.lemmas.List.Sums.{sum_by-set}
use Rattle.std.proofs.lemmas.List.Elements.{Contains-get_or, All-contains}
use Rattle.std.proofs.lemmas.Grind.{get_or_default_zero}
use Rattle.call_order.specs.Graphs.{Graph}
use Rattle.call_order.specs.Chains.{Executes, IsCallChain, Reaches, content_at}
use Rattle.call_order.specs.private.LevelViews.{AllKnown}
use Rattle.call_order.specs.private.MarkViews.{AreMarked, IsMarking, is_marked, left}
use Rattle.call_order.proofs.ChainLemmas.{reaches-one, reaches-more, closed}

pub marked_cases : (b : Bool) → (b ≡ true) ⊎ (b ≡ false)
marked_cases true = inl refl
marked_cases false = inr refl

abbrev weight : Bool → ℕ
weight b = if b then 0 else 1

module _ (g : Graph) where
  -- one more of the executed methods is marked
  pub marking_more : (i j m : ℕ) (next : List ℕ) (old seen new : List Bool) → IsMarking g i next m old seen → j ≡ get_or next m 0 → Executes g i j → is_marked new j ≡ true → AreMarked g j seen new → IsMarking g i next (m + 1) old new
  marking_more i j m next old seen new h is ex mj r = record {
    all = r.all ∙ h.all;
    kept = λ k o. r.kept k (h.kept k o);
    closed = λ k o n x e. elim (marked_cases (is_marked seen k)) [
      | inl s ↦ r.kept x (h.closed k o s x e)
      | inr u ↦ r.closed k u n x e
    ];
    reached = λ k o n. elim (marked_cases (is_marked seen k)) [
      | inl s ↦ h.reached k o s
      | inr u ↦ elim (r.reached k u n) [
        | inl same ↦ subst (Reaches g i) same (reaches-one g i j ex)
        | inr far ↦ reaches-more g i j k ex far
      ]
    ];
    here = λ k lt. elim (cases_lt k m) [
      | inl b ↦ r.kept (slice_index next k) (h.here k b)
      | inr a ↦ let e : k ≡ m = omega arith in subst (λ x. is_marked new x ≡ true) (is ∙ ap (λ x. get_or next x 0) (sym e)) mj
    ];
    fewer = omega (arith, h.fewer, r.fewer);
  }

  -- nothing was done
  pub marking_none : (i : ℕ) (next : List ℕ) (old : List Bool) → IsMarking g i next 0 old old
  marking_none i next old = record {
    all = refl;
    kept = λ k o. o;
    closed = λ k o n. absurd (differ (is_marked old k) n o);
    reached = λ k o n. absurd (differ (is_marked old k) n o);
    here = λ k lt. absurd (omega arith);
    fewer = omega arith;
  }
    where
      differ : (b : Bool) → b ≡ true → b ≡ false → ⊥
      differ b p q = cc

  pub already : (i : ℕ) (old : List Bool) → AreMarked g i old old
  already i old = let h = marking_none i [] old in record { all = refl; kept = h.kept; closed = h.closed; reached = λ k o n. inr (h.reached k o n); fewer = omega arith }

  all_here : (i m : ℕ) (next : List ℕ) (old new : List Bool) → IsMarking g i next m old new → length next ≤ m → next ≡ (content_at g i).methods → (j : ℕ) → Executes g i j → is_marked new j ≡ true
  all_here i m next old new h le is j ex =
      let ex' : Contains next j = subst (λ l. Contains l j) (sym is) ex in
      subst (λ x. is_marked new x ≡ true) (sym (get_or_default_zero next ex'.0 j ex'.1) ∙ ex'.2) (h.here ex'.0 (omega (arith, ex'.1)))

  -- a method that wasn't marked, with all that it executes
  pub marking_done : (i m : ℕ) (next : List ℕ) (old start new : List Bool) → i < length old → start ≡ set old i true → is_marked old i ≡ false → IsMarking g i next m start new → length next ≤ m → next ≡ (content_at g i).methods → AreMarked g i old new
  marking_done i m next old start new lt e un h le is = record {
    all = h.all ∙ ap length e ∙ length-set old i true;
    kept = λ k o. h.kept k (was k o);
    closed = λ k o n j ex. elim (cases_eq k i) [
      | inl same ↦ all_here i m next start new h le is j (subst (λ x. Executes g x j) same ex)
      | inr other ↦ h.closed k (other_was k other ∙ o) n j ex
    ];
    reached = λ k o n. elim (cases_eq k i) [
      | inl same ↦ inl (sym same)
      | inr other ↦ inr (h.reached k (other_was k other ∙ o) n)
    ];
    fewer = omega (arith, h.fewer, less);
  }
    where
      other_was : (k : ℕ) → k ≢ i → is_marked start k ≡ is_marked old k
      other_was k ne = ap (λ l. get_or l k false) e ∙ get_or-set_other old i k true false ne

      was : (k : ℕ) → is_marked old k ≡ true → is_marked start k ≡ true
      was k o = elim (cases_eq k i) [
        | inl same ↦ ap (λ x. get_or start x false) same ∙ ap (λ l. get_or l i false) e ∙ get_or-set_same old i true false lt
        | inr other ↦ other_was k other ∙ o
      ]

      less : left start ≤ left old
      less = let s = sum_by-set weight old i true false lt in let w : left start ≡ left (set old i true) = ap left e in omega (arith, s, w)

  -- one mark less is left
  pub left_less : (i : ℕ) (old : List Bool) → i < length old → is_marked old i ≡ false → left (set old i true) + 1 ≡ left old
  left_less i old lt un = let s = sum_by-set weight old i true false lt in let w : weight (get_or old i false) ≡ 1 = ap weight un in omega (arith, s, w)

  pub marked_now : (i m : ℕ) (next : List ℕ) (old start new : List Bool) → i < length old → start ≡ set old i true → IsMarking g i next m start new → is_marked new i ≡ true
  marked_now i m next old start new lt e h = h.kept i (ap (λ l. get_or l i false) e ∙ get_or-set_same old i true false lt)

  -- from no mark at all, what is marked is what is reached
  pub found : (i m : ℕ) (next : List ℕ) (old new : List Bool) → ((k : ℕ) → is_marked old k ≡ false) → IsMarking g i next m old new → length next ≤ m → next ≡ (content_at g i).methods → (j : ℕ) → Reaches g i j → is_marked new j ≡ true
  found i m next old new none h le is j r = by_chain r.0 r.1
    where
      by_chain : (c : List ℕ) → IsCallChain g i (c ++ j ∷ []) → is_marked new j ≡ true
      by_chain [] k = all_here i m next old new h le is j k.0
      by_chain (x ∷ c) k = closed g (λ y. is_marked new y ≡ true) (λ y n z ex. h.closed y (none y) n z ex) x j c (all_here i m next old new h le is x k.0) k.1

  pub executes_next : (i m : ℕ) (next : List ℕ) → next ≡ (content_at g i).methods → m < length next → Executes g i (get_or next m 0)
  executes_next i m next is lt = subst (λ l. Contains l (get_or next m 0)) is (Contains-get_or next m 0 lt)

  pub known_next : (i m : ℕ) (next : List ℕ) → AllKnown g → next ≡ (content_at g i).methods → m < length next → get_or next m 0 < length g
  known_next i m next known is lt = All-contains (λ j. j < length g) (content_at g i).methods (get_or next m 0) (known i) (executes_next i m next is lt)

  -- the mark of the method itself is the answer
  pub itself : (i m : ℕ) (next : List ℕ) (old new : List Bool) (b : Bool) → ((k : ℕ) → is_marked old k ≡ false) → IsMarking g i next m old new → length next ≤ m → next ≡ (content_at g i).methods → b ≡ is_marked new i → MatchBool b (Reaches g i i) (Reaches g i i → ⊥)
  itself i m next old new true none h le is e = h.reached i (none i) (sym e)
  itself i m next old new false none h le is e = λ r. let f = found i m next old new none h le is i r in absurd (differ_marks (is_marked new i) f (sym e))
    where
      differ_marks : (b : Bool) → b ≡ true → b ≡ false → ⊥
      differ_marks b p q = cc

pub unmarked_all : (n k : ℕ) → is_marked (replicate n false) k ≡ false
unmarked_all zero k = refl
unmarked_all (suc n) zero = refl
unmarked_all (suc n) (suc k) = unmarked_all n k

pub match_true : (b : Bool) (P Q : Type 0) → b ≡ true → MatchBool b P Q → P
match_true true P Q e h = h
match_true false P Q e h = absurd (cc)

pub match_false : (b : Bool) (P Q : Type 0) → b ≡ false → MatchBool b P Q → Q
match_false true P Q e h = absurd (cc)
match_false false P Q e h = h
