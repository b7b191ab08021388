-- Every plan is decided: whether a method is in a cycle, whether it begins a long chain, and the order.
use Rattle.std.proofs.Common.{◌≡◌, ◌≢◌, ℕ, zero, suc, ◌+◌, ◌<◌, ◌≤◌, ◌⊎◌, inl, inr, Bool, true, false, Option, Some, None, List, [], ◌∷◌, ◌++◌, length, get_or, set, ap, ◌∙◌, refl, sym, subst, arith, add-one, length-append}
use Rattle.std.specs.Prelude.{Contains, MatchBool, replicate}
use Rattle.std.proofs.lemmas.Bool.{cases_lt, cases_eq}
use Rattle.std.proofs.lemmas.List.{length-set, length-replicate}
use Rattle.std.proofs.Math.Seq.{get_or-append_seam}
use Rattle.std.proofs.Math.ListN.{get_or-append}
use Rattle.std.proofs.lemmas.List.Elements.{All-nil}
use Rattle.call_order.specs.Graphs.{Graph}
use Rattle.call_order.specs.Chains.{IsCallChain, BeginsMore, ReachesItself, content_at}
use Rattle.call_order.specs.private.LevelViews.{AllKnown, level_at, IsLongest, IsLevel, AreLevels, HaveLevels, AreAllPlaced, IsPartly, IsByLevel}
use Rattle.call_order.specs.private.MarkViews.{AreMarked, IsMarking, is_marked, left}
use Rattle.call_order.specs.Orders.{HasNone}
use Rattle.call_order.specs.Faults.{IsFirstBelow}
use Rattle.call_order.proofs.ChainLemmas.{begins-more}
use Rattle.call_order.proofs.MarkLemmas.{marked_cases, marking_more, marking_none, marking_done, marked_now, already, left_less, itself, executes_next, known_next, unmarked_all}
use Rattle.call_order.proofs.OrderLemmas.{same_level, pushed, passed, partly_all, level_next}

-- ---- the first that there is

pub first_or_none : (P : ℕ → Type 0) (n : ℕ) → ((i : ℕ) → i < n → P i ⊎ (P i → ⊥)) → ((i : ℕ) × IsFirstBelow P n i) ⊎ HasNone P n
first_or_none P zero d = inr (λ i lt. absurd (omega arith))
first_or_none P (suc n) d =
    elim (first_or_none P n (λ i lt. d i (omega arith))) [
      | inl f ↦ inl (f.0, record { below = omega (arith, f.1.below); holds = f.1.holds; first = f.1.first })
      | inr none ↦ elim (d n (omega arith)) [
        | inl p ↦ inl (n, record { below = omega arith; holds = p; first = none })
        | inr q ↦ inr (λ i lt. elim (cases_eq i n) [ inl e ↦ subst (λ x. P x → ⊥) (sym e) q | inr ne ↦ none i (omega (arith, ne)) ])
      ]
    ]

-- a list of what there is at each number
table : (Q : ℕ → Option ℕ → Type 0) (n : ℕ) → ((i : ℕ) → i < n → (t : ℕ) × Q i (Some t)) → (ls : List (Option ℕ)) × (length ls ≡ n) × ((i : ℕ) → i < n → Q i (level_at ls i))
table Q zero f = ([], refl, λ i lt. absurd (omega arith))
table Q (suc n) f =
    let r = table Q n (λ i lt. f i (omega arith)) in
    let t = f n (omega arith) in
    let long : length (r.0 ++ Some t.0 ∷ []) ≡ suc n = omega (arith, length-append r.0 (Some t.0 ∷ []), r.1) in (
      r.0 ++ Some t.0 ∷ [],
      long,
      λ i lt. elim (cases_lt i n) [
        | inl b ↦ subst (Q i) (sym (get_or-append r.0 (Some t.0 ∷ []) None i (omega (arith, r.1)))) (r.2 i b)
        | inr a ↦ let e : i ≡ n = omega arith in
            subst (λ x. Q x (level_at (r.0 ++ Some t.0 ∷ []) x)) (sym e) (subst (Q n) (sym (ap (λ x. get_or (r.0 ++ Some t.0 ∷ []) x None) (sym r.1) ∙ get_or-append_seam r.0 (Some t.0) [] None)) t.1)
      ],
    )

some_level : (t : ℕ) → Some t ≢ None
some_level t e = cc

-- a level is the one, or another or none
level_or_not : (level : Option ℕ) (n : ℕ) → (level ≡ Some n) ⊎ (level ≢ Some n)
level_or_not None n = inr (λ e. cc)
level_or_not (Some t) n = elim (cases_eq t n) [ inl e ↦ inl (ap Some e) | inr ne ↦ inr (λ e. ne (same_level e)) ]

module _ (g : Graph) where
  -- ---- chains

  any_or_none : (P : ℕ → Type 0) → ((j : ℕ) → P j ⊎ (P j → ⊥)) → (js : List ℕ) → ((j : ℕ) × Contains js j × P j) ⊎ ((j : ℕ) → Contains js j → P j → ⊥)
  any_or_none P d [] = inr (λ j c p. absurd (omega (arith, c.1)))
  any_or_none P d (x ∷ js) =
      elim (d x) [
        | inl p ↦ inl (x, (0, omega arith, refl), p)
        | inr q ↦ elim (any_or_none P d js) [
          | inl a ↦ inl (a.0, (suc a.1.0, omega (arith, a.1.1), a.1.2), a.2)
          | inr none ↦ inr (λ j c p. by_place j c.0 c.1 c.2 q none p)
        ]
      ]
    where
      by_place : (j k : ℕ) → k < length (x ∷ js) → get_or (x ∷ js) k j ≡ j → (P x → ⊥) → ((y : ℕ) → Contains js y → P y → ⊥) → P j → ⊥
      by_place j zero lt e q none p = q (subst P (sym e) p)
      by_place j (suc k) lt e q none p = none j (k, omega arith, e) p

  pub begins_or_not : (n i : ℕ) → BeginsMore g n i ⊎ (BeginsMore g n i → ⊥)
  begins_or_not zero i = inl ([], tt, omega arith)
  begins_or_not (suc n) i =
      elim (any_or_none (BeginsMore g n) (begins_or_not n) (content_at g i).methods) [
        | inl a ↦ let r = begins-more g i a.0 n a.1 a.2 in inl (r.0, r.1, omega (arith, r.2))
        | inr none ↦ inr (λ b. shorter b.0 b.1 b.2 none)
      ]
    where
      shorter : (c : List ℕ) → IsCallChain g i c → suc n < length (i ∷ c) → ((j : ℕ) → Contains (content_at g i).methods j → BeginsMore g n j → ⊥) → ⊥
      shorter [] h lt none = omega arith
      shorter (j ∷ c) h lt none = none j h.0 (c, h.1, omega arith)

  -- ---- levels

  level_found : (n i : ℕ) → n ≤ 64 → (BeginsMore g n i → ⊥) → (t : ℕ) × IsLongest g 64 i t
  level_found zero i le nb = absurd (nb ([], tt, omega arith))
  level_found (suc n) i le nb =
      elim (begins_or_not n i) [
        | inl b ↦ (
          suc n,
          record {
            begins = (b.0, b.1, omega (arith, b.2));
            ends = λ rest h. elim (cases_lt (length rest) (suc n)) [ inl lt ↦ lt | inr more ↦ absurd (nb (rest, h, omega arith)) ];
            few = le;
          },
        )
        | inr none ↦ level_found n i (omega arith) none
      ]

  pub levels_found : ((i : ℕ) → i < length g → BeginsMore g 64 i → ⊥) → (ls : List (Option ℕ)) × AreLevels g 64 ls × HaveLevels ls
  levels_found none =
      let Q : ℕ → Option ℕ → Type 0 = λ i level. (level ≢ None) × IsLevel g 64 i level in
      let r = table Q (length g) (λ i lt. let l = level_found 64 i (omega arith) (none i lt) in (l.0, (some_level l.0, l.1))) in
      (r.0, record { all = r.1; each = λ i lt. (r.2 i lt).1 }, λ i lt. (r.2 i (omega (arith, r.1))).0)

  -- ---- cycles

  module _ (known : AllKnown g) where
    abbrev Marks : ℕ → List Bool → Type 0
    Marks i old = (new : List Bool) × AreMarked g i old new × (is_marked new i ≡ true)

    abbrev Marking : ℕ → ℕ → List Bool → Type 0
    Marking i m old = (new : List Bool) × IsMarking g i (content_at g i).methods m old new

    marking_all : (i m f : ℕ) (old : List Bool) → length old ≡ length g → left old ≤ f → m ≤ length (content_at g i).methods → ((j : ℕ) (o : List Bool) → length o ≡ length g → left o ≤ f → j < length g → Marks j o) → Marking i m old
    marking_all i zero f old len few le rec = (old, marking_none g i (content_at g i).methods old)
    marking_all i (suc m) f old len few le rec =
        let seen = marking_all i m f old len few (omega arith) rec in
        let j = get_or (content_at g i).methods m 0 in
        let new = rec j seen.0 (seen.1.all ∙ len) (omega (arith, few, seen.1.fewer)) (known_next g i m (content_at g i).methods known refl (omega arith)) in
        let r = marking_more g i j m (content_at g i).methods old seen.0 new.0 seen.1 refl (executes_next g i m (content_at g i).methods refl (omega arith)) new.2 new.1 in
        (new.0, subst (λ x. IsMarking g i (content_at g i).methods x old new.0) (add-one m) r)

    marks : (f i : ℕ) (old : List Bool) → length old ≡ length g → left old ≤ f → i < length g → Marks i old
    marks zero i old len few lt = elim (marked_cases (is_marked old i)) [
      | inl t ↦ (old, already g i old, t)
      | inr u ↦ let l = left_less g i old (omega (arith, len)) u in absurd (omega (arith, l, few))
    ]
    marks (suc f) i old len few lt = elim (marked_cases (is_marked old i)) [
      | inl t ↦ (old, already g i old, t)
      | inr u ↦
          let row = (content_at g i).methods in
          let il : i < length old = omega (arith, len) in
          let l = left_less g i old il u in
          let new = marking_all i (length row) f (set old i true) (length-set old i true ∙ len) (omega (arith, l, few)) (omega arith) (marks f) in
          (new.0, marking_done g i (length row) row old (set old i true) new.0 il refl u new.1 (omega arith) refl, marked_now g i (length row) row old (set old i true) new.0 il refl new.1)
    ]

    pub cycle_or_not : (i : ℕ) → i < length g → ReachesItself g i ⊎ (ReachesItself g i → ⊥)
    cycle_or_not i lt =
        let old = replicate (length g) false in
        let n = left old in
        let len = length-replicate (length g) false in
        let m = marking_all i (length (content_at g i).methods) n old len (omega arith) (omega arith) (marks n) in
        by_mark (is_marked m.0 i) (itself g i (length (content_at g i).methods) (content_at g i).methods old m.0 (is_marked m.0 i) (unmarked_all (length g)) m.1 (omega arith) refl refl)
      where
        by_mark : (b : Bool) → MatchBool b (ReachesItself g i) (ReachesItself g i → ⊥) → ReachesItself g i ⊎ (ReachesItself g i → ⊥)
        by_mark true h = inl h
        by_mark false h = inr h

-- ---- the order

module _ (ls : List (Option ℕ)) where
  level_all : (n i : ℕ) (o : List ℕ) → i ≤ length ls → IsPartly ls n 0 o → (o' : List ℕ) × IsPartly ls n i o'
  level_all n zero o le h = (o, h)
  level_all n (suc i) o le h =
      let r = level_all n i o (omega arith) h in
      elim (level_or_not (level_at ls i) n) [
        | inl e ↦ (r.0 ++ i ∷ [], subst (λ x. IsPartly ls n x (r.0 ++ i ∷ [])) (add-one i) (pushed ls n i r.0 (r.0 ++ i ∷ []) r.1 (omega arith) e refl))
        | inr ne ↦ (r.0, subst (λ x. IsPartly ls n x r.0) (add-one i) (passed ls n i r.0 r.0 r.1 ne refl))
      ]

  levels_all : (n : ℕ) → (o : List ℕ) × IsPartly ls (n + 1) 0 o
  levels_all zero = (
    [],
    record {
      known = All-nil (λ k. k < length ls);
      done = λ k t kl is p d. absurd (elim d [ inl x ↦ omega (arith, x, p) | inr x ↦ omega (arith, x.1) ]);
      rest = λ k t kl is d. refl;
      low = λ q ql. absurd (omega arith);
      sorted = λ p q pq ql. absurd (omega arith);
    },
  )
  levels_all (suc n) =
      let r = levels_all n in
      let s = level_all (n + 1) (length ls) r.0 (omega arith) r.1 in
      (s.0, subst (λ x. IsPartly ls x 0 s.0) (omega arith) (level_next ls (n + 1) (length ls) s.0 (omega arith) s.1))

  pub order_found : AreAllPlaced ls → (o : List ℕ) × IsByLevel ls o
  order_found placed = let r = levels_all 64 in (r.0, partly_all ls 65 r.0 placed (omega arith) r.1)
