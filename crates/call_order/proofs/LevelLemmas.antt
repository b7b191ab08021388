-- A round: each method whose methods all have a level gets the next.
use Rattle.std.proofs.Common.{◌≡◌, ◌≢◌, ℕ, zero, suc, ◌+◌, ◌-◌, ◌<◌, ◌≤◌, inl, inr, true, false, Option, Some, None, List, [], ◌∷◌, length, get_or, set, ap, ◌∙◌, refl, sym, subst, arith}
use Rattle.std.specs.Prelude.{Contains, All, is_some}
use Rattle.std.proofs.lemmas.Bool.{cases_lt, cases_eq}
use Rattle.std.proofs.lemmas.List.{get_or-set_same, get_or-set_other, length-set}
use Rattle.std.proofs.lemmas.List.Elements.{All-contains}
use Rattle.call_order.specs.Graphs.{Graph, Content}
use Rattle.call_order.specs.Chains.{Executes, IsCallChain, BeginsMore, content_at}
use Rattle.call_order.specs.private.LevelViews.{AllKnown, level_at, IsLongest, IsLevel, IsPlaced, AreLevels, AreRaised}
use Rattle.call_order.proofs.ChainLemmas.{begins-less, begins-more}

-- what the test of a level tells
pub is_without : (level : Option ℕ) → is_some level ≡ false → level ≡ None
is_without None e = refl
is_without (Some t) e = absurd (cc)

pub is_with : (level : Option ℕ) → is_some level ≡ true → level ≢ None
is_with None e none = cc
is_with (Some t) e none = cc

-- a level of at most n is one of at most one more
pub placed_more : (n : ℕ) (level : Option ℕ) → IsPlaced n level → IsPlaced (n + 1) level
placed_more n None p = absurd p
placed_more n (Some t) p = omega (arith, p)

module _ (g : Graph) where
  -- one more level: a method all of whose methods have a level of at most n, and one that executes another
  pub level_up : (n i : ℕ) → BeginsMore g n i → ((j : ℕ) → Executes g i j → (rest : List ℕ) → IsCallChain g j rest → length rest < n) → IsLongest g (n + 1) i (n + 1)
  level_up n i b f = record { begins = begins-less g i (n + 1 - 1) n (omega arith) b; ends = ends; few = omega arith }
    where
      ends : (rest : List ℕ) → IsCallChain g i rest → length rest < n + 1
      ends [] h = omega arith
      ends (j ∷ rest) h = let l = f j h.0 rest h.1 in omega (arith, l)

  pub level_kept : (n i : ℕ) (level : Option ℕ) → level ≢ None → IsLevel g n i level → IsLevel g (n + 1) i level
  level_kept n i None some l = absurd (some refl)
  level_kept n i (Some t) some l = record { begins = l.begins; ends = l.ends; few = omega (arith, l.few) }

  -- the chains of a method with a level of at most n
  level_ends : (n m j : ℕ) (level : Option ℕ) → IsLevel g m j level → IsPlaced n level → (rest : List ℕ) → IsCallChain g j rest → length rest < n
  level_ends n m j None l p = absurd p
  level_ends n m j (Some t) l p = λ rest h. let e = l.ends rest h in omega (arith, e, p)

  -- a method without a level of at most n
  level_long : (n m j : ℕ) (level : Option ℕ) → n ≤ m → IsLevel g m j level → (IsPlaced n level → ⊥) → BeginsMore g n j
  level_long n m j None le l np = begins-less g j n m le l
  level_long n m j (Some t) le l np =
      elim (cases_lt n t) [
        | inl more ↦ begins-less g j n (t - 1) (omega (arith, more)) l.begins
        | inr less ↦ absurd (np less)
      ]

-- what is read at a place
pub read_at : (g : Graph) (i : ℕ) (x : Content) (js : List ℕ) → x ≡ get_or g i x → i < length g → js ≡ x.methods → js ≡ (content_at g i).methods
read_at [] i x js is lt e = absurd (omega arith)
read_at (y ∷ g) zero x js is lt e = e ∙ ap (λ q. q.methods) is
read_at (y ∷ g) (suc i) x js is lt e = read_at g i x js is (omega arith) e

module _ (g : Graph) (n : ℕ) where
  -- the levels that a round finds, of the methods before i and from i on
  placed_ends : (i j : ℕ) (ls : List (Option ℕ)) → AreRaised g n i ls → j < length g → IsPlaced n (level_at ls j) → (rest : List ℕ) → IsCallChain g j rest → length rest < n
  placed_ends i j ls r lt p =
      elim (cases_lt j i) [
        | inl b ↦ level_ends g n (n + 1) j (level_at ls j) (r.before j b lt) p
        | inr a ↦ level_ends g n n j (level_at ls j) (r.after j a lt) p
      ]

  unplaced : (i j : ℕ) (ls : List (Option ℕ)) → AreRaised g n i ls → j < length g → (IsPlaced n (level_at ls j) → ⊥) → BeginsMore g n j
  unplaced i j ls r lt np =
      elim (cases_lt j i) [
        | inl b ↦ level_long g n (n + 1) j (level_at ls j) (omega arith) (r.before j b lt) np
        | inr a ↦ level_long g n n j (level_at ls j) (omega arith) (r.after j a lt) np
      ]

  -- a place is passed, with the level that it has now
  pass : (i : ℕ) (ls ls' : List (Option ℕ)) → AreRaised g n i ls → i < length g → length ls' ≡ length ls → ((k : ℕ) → k ≢ i → level_at ls' k ≡ level_at ls k) → IsLevel g (n + 1) i (level_at ls' i) → AreRaised g n (i + 1) ls'
  pass i ls ls' r lt len same new = record {
    all = len ∙ r.all;
    before = λ k b kl. elim (cases_eq k i) [
      | inl e ↦ subst (λ x. IsLevel g (n + 1) x (level_at ls' x)) (sym e) new
      | inr ne ↦ subst (IsLevel g (n + 1) k) (sym (same k ne)) (r.before k (omega (arith, ne)) kl)
    ];
    after = λ k a kl. subst (IsLevel g n k) (sym (same k (λ e. absurd (omega arith)))) (r.after k (omega arith) kl);
  }

  pub raised_set : (i : ℕ) (ls ls' : List (Option ℕ)) (js : List ℕ) → AreRaised g n i ls → AllKnown g → i < length g → js ≡ (content_at g i).methods → level_at ls i ≡ None → All (λ j. IsPlaced n (level_at ls j)) js → ls' ≡ set ls i (Some (n + 1)) → AreRaised g n (i + 1) ls'
  raised_set i ls ls' js r known lt is z ready e =
      let P : ℕ → Type 0 = λ j. IsPlaced n (level_at ls j) in
      let here : level_at ls' i ≡ Some (n + 1) = ap (λ l. get_or l i None) e ∙ get_or-set_same ls i (Some (n + 1)) None (omega (arith, r.all)) in
      pass i ls ls' r lt (ap length e ∙ length-set ls i (Some (n + 1))) (λ k ne. ap (λ l. get_or l k None) e ∙ get_or-set_other ls i k (Some (n + 1)) None ne)
      (subst (IsLevel g (n + 1) i) (sym here) (level_up g n i (subst (IsLevel g n i) z (r.after i (omega arith) lt))
      (λ j ex. placed_ends i j ls r (All-contains (λ k. k < length g) (content_at g i).methods j (known i) ex)
      (All-contains P (content_at g i).methods j (subst (All P) is ready) ex))))

  pub raised_not : (i : ℕ) (ls ls' : List (Option ℕ)) (js : List ℕ) → AreRaised g n i ls → AllKnown g → i < length g → js ≡ (content_at g i).methods → level_at ls i ≡ None → (j : ℕ) × Contains js j × (IsPlaced n (level_at ls j) → ⊥) → ls' ≡ ls → AreRaised g n (i + 1) ls'
  raised_not i ls ls' js r known lt is z other e =
      let ex : Executes g i other.0 = subst (λ l. Contains l other.0) is other.1 in
      let jl : other.0 < length g = All-contains (λ k. k < length g) (content_at g i).methods other.0 (known i) ex in
      pass i ls ls' r lt (ap length e) (λ k ne. ap (λ l. get_or l k None) e)
      (subst (IsLevel g (n + 1) i) (sym (ap (λ l. get_or l i None) e ∙ z)) (begins-more g i other.0 n ex (unplaced i other.0 ls r jl other.2)))

  pub raised_kept : (i : ℕ) (ls ls' : List (Option ℕ)) → AreRaised g n i ls → i < length g → level_at ls i ≢ None → ls' ≡ ls → AreRaised g n (i + 1) ls'
  raised_kept i ls ls' r lt nz e =
      pass i ls ls' r lt (ap length e) (λ k ne. ap (λ l. get_or l k None) e)
      (subst (IsLevel g (n + 1) i) (sym (ap (λ l. get_or l i None) e)) (level_kept g n i (level_at ls i) nz (r.after i (omega arith) lt)))

  pub raised_first : (ls : List (Option ℕ)) → AreLevels g n ls → AreRaised g n 0 ls
  raised_first ls a = record { all = a.all; before = λ k b kl. absurd (omega arith); after = λ k b kl. a.each k kl }

  pub raised_last : (i : ℕ) (ls : List (Option ℕ)) → length g ≤ i → AreRaised g n i ls → AreLevels g (n + 1) ls
  raised_last i ls le r = record { all = r.all; each = λ k kl. r.before k (omega arith) kl }

pub levels_first : (g : Graph) (ls : List (Option ℕ)) → length ls ≡ length g → ((i : ℕ) → i < length g → level_at ls i ≡ None) → AreLevels g 0 ls
levels_first g ls all none = record {
  all = all;
  each = λ i lt. subst (IsLevel g 0 i) (sym (none i lt)) ([], tt, omega arith);
}
