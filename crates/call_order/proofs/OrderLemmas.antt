-- The methods by level are in order.
use Rattle.std.proofs.Common.{◌≡◌, ◌≢◌, ℕ, suc, ◌+◌, ◌<◌, ◌≤◌, inl, inr, true, false, nat_eq, cond, Option, Some, None, List, [], ◌∷◌, ◌++◌, length, get_or, take, ap, ◌∙◌, refl, sym, subst, arith, length-append}
use Rattle.std.specs.Prelude.{Contains, slice_index, MatchOption, IfSome, count_by, ◌==◌}
use Rattle.std.specs.Option.{option_eq}
use Rattle.std.proofs.lemmas.Bool.{cases_lt, cases_eq}
use Rattle.std.proofs.lemmas.Bool.Decides.{eqb_tells}
use Rattle.std.proofs.Math.Seq.{get_or-append_seam}
use Rattle.std.proofs.Math.ListN.{get_or-append}
use Rattle.std.proofs.lemmas.List.{get_or-take, length-take}
use Rattle.std.proofs.lemmas.List.Sums.{sum_by_push, sum_by-cons}
use Rattle.std.proofs.lemmas.List.Elements.{All-push, All-contains}
use Rattle.std.proofs.lemmas.Grind.{get_or_default_zero}
use Rattle.call_order.specs.Graphs.{Graph}
use Rattle.call_order.specs.Chains.{Executes, BeginsMore, ReachesItself, content_at}
use Rattle.call_order.specs.private.LevelViews.{AllKnown, level_at, IsLongest, IsLevel, IsPlaced, AreLevels, HaveLevels, AreAllPlaced, IsByLevel, IsPassed, IsAhead, IsPartly}
use Rattle.call_order.specs.Orders.{IsOrder}
use Rattle.call_order.specs.Faults.{IsFirstBelow}
use Rattle.call_order.proofs.ChainLemmas.{cycle-long}
use Rattle.call_order.proofs.LevelLemmas.{placed_more}

abbrev counted : ℕ → List ℕ → ℕ
counted k o = count_by (λ j. j == k) o

abbrev weight : ℕ → ℕ → ℕ
weight k j = cond (j == k) 1 0

weight_same : (k j : ℕ) → j ≡ k → weight k j ≡ 1
weight_same k j e = elim (eqb_tells j k) [ inl t ↦ ap (λ b. cond b 1 0) t.0 | inr f ↦ absurd (f.1 e) ]

weight_other : (k j : ℕ) → j ≢ k → weight k j ≡ 0
weight_other k j ne = elim (eqb_tells j k) [ inl t ↦ absurd (ne t.1) | inr f ↦ ap (λ b. cond b 1 0) f.0 ]

pub same_level : {t u : ℕ} → Some t ≡ Some u → t ≡ u
same_level e = cc

-- what the test of a level against a number tells
pub is_of : (level : Option ℕ) (n : ℕ) → true ≡ option_eq nat_eq level (Some n) → level ≡ Some n
is_of None n e = absurd (cc)
is_of (Some t) n e = elim (eqb_tells t n) [ inl y ↦ ap Some y.1 | inr y ↦ absurd (let f = y.0 in cc) ]

pub is_other : (level : Option ℕ) (n : ℕ) → false ≡ option_eq nat_eq level (Some n) → level ≢ Some n
is_other None n e is = cc
is_other (Some t) n e is = elim (eqb_tells t n) [ inl y ↦ let f = y.0 in cc | inr y ↦ y.1 (same_level is) ]

level_there : (level : Option ℕ) → MatchOption level ⊥ (λ t. (0 < t) × (t ≤ 64)) → (t : ℕ) × (level ≡ Some t) × (0 < t) × (t ≤ 64)
level_there None p = absurd p
level_there (Some t) p = (t, refl, p.0, p.1)

module _ (ls : List (Option ℕ)) (n : ℕ) where
  pushed_on : (i : ℕ) (o : List ℕ) → IsPartly ls n i o → i < length ls → level_at ls i ≡ Some n → IsPartly ls n (i + 1) (o ++ i ∷ [])
  pushed_on i o h lt e = record {
    known = All-push (λ k. k < length ls) o i h.known lt;
    done = λ k t kl is p d. elim (cases_eq k i) [
      | inl same ↦ let r = h.rest k n kl (ap (level_at ls) same ∙ e) (inr (refl, omega arith)) in let s = sum_by_push (weight k) o i in let w = weight_same k i (sym same) in omega (arith, r, s, w)
      | inr other ↦ let s = sum_by_push (weight k) o i in let w = weight_other k i (λ x. other (sym x)) in let r = h.done k t kl is p (earlier k t other d) in omega (arith, r, s, w)
    ];
    rest = λ k t kl is d. let s = sum_by_push (weight k) o i in let w = weight_other k i (λ x. apart k t (sym x) is d) in let r = h.rest k t kl is (later k t d) in omega (arith, r, s, w);
    low = λ q ql. elim (cases_lt q (length o)) [
      | inl b ↦ subst (λ x. IsPlaced n (level_at ls x)) (sym (get_or-append o (i ∷ []) 0 q b)) (h.low q b)
      | inr a ↦ subst (λ x. IsPlaced n (level_at ls x)) (sym (last q ql a)) (subst (IsPlaced n) (sym e) (omega arith))
    ];
    sorted = λ p q pq ql. elim (cases_lt q (length o)) [
      | inl b ↦ subst (λ x. IfSome (level_at ls x) (λ t. IsPlaced t (level_at ls (get_or (o ++ i ∷ []) p 0)))) (sym (get_or-append o (i ∷ []) 0 q b))
          (subst (λ x. IfSome (level_at ls (get_or o q 0)) (λ t. IsPlaced t (level_at ls x))) (sym (get_or-append o (i ∷ []) 0 p (omega arith))) (h.sorted p q pq b))
      | inr a ↦ let pl : p < length o = before p q pq ql a in
          subst (λ x. IfSome (level_at ls x) (λ t. IsPlaced t (level_at ls (get_or (o ++ i ∷ []) p 0)))) (sym (last q ql a))
          (subst (λ x. IfSome (level_at ls i) (λ t. IsPlaced t (level_at ls x))) (sym (get_or-append o (i ∷ []) 0 p pl))
          (subst (λ x. IfSome x (λ t. IsPlaced t (level_at ls (get_or o p 0)))) (sym e) (h.low p pl)))
    ];
  }
    where
      earlier : (k t : ℕ) → k ≢ i → IsPassed n (i + 1) k t → IsPassed n i k t
      earlier k t ne (inl x) = inl x
      earlier k t ne (inr x) = inr (x.0, omega (arith, x.1, ne))

      later : (k t : ℕ) → IsAhead n (i + 1) k t → IsAhead n i k t
      later k t (inl x) = inl x
      later k t (inr x) = inr (x.0, omega (arith, x.1))

      apart : (k t : ℕ) → k ≡ i → level_at ls k ≡ Some t → IsAhead n (i + 1) k t → ⊥
      apart k t same is (inl x) = let y = same_level (sym is ∙ (ap (level_at ls) same ∙ e)) in omega (arith, x, y)
      apart k t same is (inr x) = omega (arith, x.1, same)

      last : (q : ℕ) → q < length (o ++ i ∷ []) → length o ≤ q → get_or (o ++ i ∷ []) q 0 ≡ i
      last q ql a = let l = length-append o (i ∷ []) in let s : q ≡ length o = omega (arith, l) in ap (λ x. get_or (o ++ i ∷ []) x 0) s ∙ get_or-append_seam o i [] 0

      before : (p q : ℕ) → p < q → q < length (o ++ i ∷ []) → length o ≤ q → p < length o
      before p q pq ql a = let l = length-append o (i ∷ []) in omega (arith, l)

  pub pushed : (i : ℕ) (o o' : List ℕ) → IsPartly ls n i o → i < length ls → level_at ls i ≡ Some n → o' ≡ o ++ i ∷ [] → IsPartly ls n (i + 1) o'
  pushed i o o' h lt e is = subst (IsPartly ls n (i + 1)) (sym is) (pushed_on i o h lt e)

  pub passed : (i : ℕ) (o o' : List ℕ) → IsPartly ls n i o → level_at ls i ≢ Some n → o' ≡ o → IsPartly ls n (i + 1) o'
  passed i o o' h ne is = subst (IsPartly ls n (i + 1)) (sym is) (record {
    known = h.known;
    done = λ k t kl at p d. h.done k t kl at p (earlier k t at d);
    rest = λ k t kl at d. h.rest k t kl at (later k t d);
    low = h.low;
    sorted = h.sorted;
  })
    where
      earlier : (k t : ℕ) → level_at ls k ≡ Some t → IsPassed n (i + 1) k t → IsPassed n i k t
      earlier k t at (inl x) = inl x
      earlier k t at (inr x) = elim (cases_eq k i) [ inl same ↦ absurd (ne (sym (ap (level_at ls) same) ∙ (at ∙ ap Some x.0))) | inr other ↦ inr (x.0, omega (arith, x.1, other)) ]

      later : (k t : ℕ) → IsAhead n (i + 1) k t → IsAhead n i k t
      later k t (inl x) = inl x
      later k t (inr x) = inr (x.0, omega (arith, x.1))

  pub partly_all : (o : List ℕ) → AreAllPlaced ls → 64 < n → IsPartly ls n 0 o → IsByLevel ls o
  partly_all o placed most h = record {
    known = h.known;
    once = λ k kl. let l = level_there (level_at ls k) (placed k kl) in h.done k l.0 kl l.1 l.2 (inl (omega (arith, l.3)));
    sorted = h.sorted;
  }

-- a method that is counted is there
pub counted_there : (k : ℕ) (o : List ℕ) → counted k o ≡ 1 → Contains o k
counted_there k [] e = absurd (cc)
counted_there k (x ∷ o) e =
    let s = sum_by-cons (weight k) x o in
    elim (cases_eq x k) [
      | inl same ↦ (0, omega arith, same)
      | inr other ↦ let w = weight_other k x other in let r = counted_there k o (omega (arith, e, s, w)) in (suc r.0, omega (arith, r.1), r.2)
    ]

module _ (g : Graph) where
  level_some : (i : ℕ) (level : Option ℕ) → level ≢ None → IsLevel g 64 i level → (t : ℕ) × (level ≡ Some t) × IsLongest g 64 i t
  level_some i None some l = absurd (some refl)
  level_some i (Some t) some l = (t, refl, l)

  -- a method has no level where it begins a chain of more than 64
  level_none : (i : ℕ) (level : Option ℕ) → IsLevel g 64 i level → BeginsMore g 64 i → level ≡ None
  level_none i None l b = refl
  level_none i (Some t) l b = let e = l.ends b.0 b.1 in let f = l.few in absurd (omega (arith, e, f, b.2))

  placed_some : (i : ℕ) (level : Option ℕ) → level ≢ None → IsLevel g 64 i level → MatchOption level ⊥ (λ t. (0 < t) × (t ≤ 64))
  placed_some i None some l = absurd (some refl)
  placed_some i (Some t) some l = (l.ends [] tt, l.few)

-- a level isn't higher than one that it isn't behind
not_higher : (a b : Option ℕ) (t u : ℕ) → a ≡ Some t → b ≡ Some u → IfSome b (λ v. IsPlaced v a) → t ≤ u
not_higher a b t u x y h = subst (IsPlaced u) x (subst (λ c. IfSome c (λ v. IsPlaced v a)) y h)

module _ (g : Graph) (ls : List (Option ℕ)) (levels : AreLevels g 64 ls) (have : HaveLevels ls) where
  level_of : (i : ℕ) → i < length g → (t : ℕ) × (level_at ls i ≡ Some t) × IsLongest g 64 i t
  level_of i lt = level_some g i (level_at ls i) (have i (omega (arith, levels.all))) (levels.each i lt)

  pub all_placed : AreAllPlaced ls
  all_placed i lt = placed_some g i (level_at ls i) (have i lt) (levels.each i (omega (arith, levels.all)))

  lower : (i j : ℕ) (il : i < length g) (jl : j < length g) → Executes g i j → (level_of j jl).0 < (level_of i il).0
  lower i j il jl ex =
      let b = (level_of j jl).2.begins in
      let e = (level_of i il).2.ends (j ∷ b.0) (ex, b.1) in
      omega (arith, b.2, e)

  pub is_order : (o : List ℕ) → AllKnown g → IsByLevel ls o → IsOrder g o
  is_order o known h = record {
    known = λ k d kl. subst (λ n. get_or o k d < n) levels.all (h.known k d kl);
    once = λ i lt. h.once i (omega (arith, levels.all));
    after = after;
  }
    where
      before : (k j q t u : ℕ) → k < length o → q < length o → get_or o q 0 ≡ j → level_at ls j ≡ Some t → level_at ls (slice_index o k) ≡ Some u → t < u → q < k
      before k j q t u kl ql is low high less =
          let there : level_at ls (slice_index o q) ≡ Some t = ap (level_at ls) is ∙ low in
          elim (cases_lt q k) [
            | inl b ↦ b
            | inr a ↦ elim (cases_eq q k) [
              | inl same ↦ let e : Some u ≡ Some t = sym high ∙ (ap (λ y. level_at ls (slice_index o y)) (sym same) ∙ there) in let x = same_level e in absurd (omega (arith, less, x))
              | inr other ↦ let s = not_higher (level_at ls (slice_index o k)) (level_at ls (slice_index o q)) u t high there (h.sorted k q (omega (arith, a, other)) ql) in absurd (omega (arith, s, less))
            ]
          ]

      after : (k : ℕ) → k < length o → (j : ℕ) → Executes g (slice_index o k) j → Contains (take k o) j
      after k kl j ex =
          let il : slice_index o k < length g = subst (λ n. slice_index o k < n) levels.all (h.known k 0 kl) in
          let jl : j < length g = All-contains (λ x. x < length g) (content_at g (slice_index o k)).methods j (known (slice_index o k)) ex in
          let c = counted_there j o (h.once j (omega (arith, levels.all, jl))) in
          let is : get_or o c.0 0 ≡ j = sym (get_or_default_zero o c.0 j c.1) ∙ c.2 in
          let low = level_of j jl in
          let high = level_of (slice_index o k) il in
          let lt = before k j c.0 low.0 high.0 kl c.1 is low.1 high.1 (lower (slice_index o k) j il jl ex) in
          (c.0, omega (arith, lt, kl, length-take k o), get_or-take k o c.0 j lt ∙ c.2)

  pub not_long : (i : ℕ) → i < length g → BeginsMore g 64 i → ⊥
  not_long i lt b = have i (omega (arith, levels.all)) (level_none g i (level_at ls i) (levels.each i lt) b)

  pub not_cyclic : (i : ℕ) → i < length g → ReachesItself g i → ⊥
  not_cyclic i lt r =
      let l = level_of i lt in
      let b = cycle-long g i l.0 r in
      let e = l.2.ends b.0 b.1 in
      omega (arith, e, b.2)

pub first_chain : (g : Graph) (ls : List (Option ℕ)) (i : ℕ) → AreLevels g 64 ls → IsFirstBelow (λ k. level_at ls k ≡ None) (length ls) i → IsFirstBelow (BeginsMore g 64) (length g) i
first_chain g ls i levels h = record {
  below = omega (arith, levels.all, h.below);
  holds = subst (IsLevel g 64 i) h.holds (levels.each i (omega (arith, levels.all, h.below)));
  first = λ k lt b. h.first k lt (level_none g k (level_at ls k) (levels.each k (omega (arith, levels.all, h.below))) b);
}

pub level_next : (ls : List (Option ℕ)) (n i : ℕ) (o : List ℕ) → length ls ≤ i → IsPartly ls n i o → IsPartly ls (n + 1) 0 o
level_next ls n i o le h = record {
  known = h.known;
  done = λ k t kl is p d. h.done k t kl is p (elim d [
    | inl x ↦ elim (cases_eq t n) [ inl e ↦ inr (e, omega (arith, kl, le)) | inr ne ↦ inl (omega (arith, x, ne)) ]
    | inr x ↦ absurd (omega (arith, x.1))
  ]);
  rest = λ k t kl is d. h.rest k t kl is (inl (elim d [ inl x ↦ omega (arith, x) | inr x ↦ omega (arith, x.0) ]));
  low = λ q ql. placed_more n (level_at ls (slice_index o q)) (h.low q ql);
  sorted = h.sorted;
}
