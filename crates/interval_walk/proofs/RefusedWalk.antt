-- Each refusal of the walk is that of a row.
use Rattle.std.proofs.Common.{◌≡◌, ℕ, zero, suc, ◌+◌, List, [], ◌∷◌, ◌||◌, Option, Some, None, Result, Ok, Err, ◌⊎◌, inl, inr, refl, sym, ap, ◌∙◌, subst}
use Rattle.std.specs.Prelude.{IfSome, IsSomeAnd, IsOkAnd, IsTrue, is_some}
use Rattle.scaled_decimal.specs.Decimals.{Decimal}
use Rattle.pap_tree.specs.declared.expression.Unary.TheVariants.{Not}
use Rattle.pap_tree.specs.declared.expression.Binary.TheVariants.{And, Or}
use Rattle.pap_tree.specs.Term.{Term, leaf, item, one, two, choice, unary, operator}
use Rattle.pap_tree.specs.Numbering.{nodes}
use Rattle.pap_tree.specs.Scales.{KeepsScales}
use Rattle.pap_tree.specs.Flowchart.{Flowchart, Body, done, eval, branch, execute}
use Rattle.pap_tree.specs.Names.{main_name}
use Rattle.pap_tree.specs.Statements.{written}
use Rattle.interval_num.specs.declared.cause.RangeCause.{RangeCause}
use Rattle.interval_num.specs.declared.cause.RangeCause.TheVariants.{Wide}
use Rattle.interval_num.specs.Intervals.{Interval}
use Rattle.interval_num.specs.Rows.{RowAnswer, item_row, join_row}
use Rattle.pap_types.specs.Scopes.{scope_of, table_in}
use Rattle.pap_types.specs.Kinds.{kind_of, int_literal}
use Rattle.pap_types.specs.Limits.{longest_chain}
use Rattle.pap_types.specs.Checks.{IsWellTyped, place, last_node}
use Rattle.pap_types.specs.Typing.{IsTypedTerm, IsTypedBody}
use Rattle.pap_types.specs.Counts.{AreSmallTerms, IsWithinCounts}
use Rattle.pap_types.proofs.Laws.{has_types}
use Rattle.interval_walk.specs.Ranges.{Ranges, names_in}
use Rattle.interval_walk.specs.Failures.{NodeFault, WalkFault, node_fails, and_then, at_node, at_stmt, nowhere}
use Rattle.interval_walk.specs.NodeRanges.{leaf_range, read_item, item_range, one_range, two_range, comparison_range}
use Rattle.interval_walk.specs.Branches.{Branches, sides, compared, opposite, reached, both_hold, one_holds, either_way}
use Rattle.interval_walk.specs.Ranged.{ranged, tested, compare_sides, are_whole}
use Rattle.interval_walk.specs.Walked.{RangeCalls, assigned_range, joined, walked, with_body, range_calls_of}
use Rattle.interval_walk.specs.Analysis.{start_ranges, range_calls_in, output_ranges, unless_unbounded}
use Rattle.interval_walk.specs.Reading.{HoldsTerm, HoldsBody, HoldsPlan}
use Rattle.interval_walk.specs.WalkReading.{GoesOn}
use Rattle.interval_walk.specs.Asked.{CanHaveRange, CanHaveBranches, CanBeWalked, EntersWithin}
use Rattle.interval_walk.specs.Refusals.{InTurn, InBranches, RowRefuses, TestRefuses, JoinRefuses, AtStatement, BodyRefuses, CallsRefuse, RefusalsAreRows}
use Rattle.interval_walk.proofs.WalkSound.{found_method}
use Rattle.interval_walk.proofs.NameLemmas.{tested_named, walked_named, calls_named, meet}
use Rattle.interval_walk.proofs.ReadSound.{shaped_after, reading_free}
use Rattle.interval_walk.proofs.FilledWalk.{filled_after, none_empty}
use Rattle.interval_walk.proofs.ReadWalk.{Stands, goes_on, reads_term}
use Rattle.interval_walk.proofs.AskedWalk.{refused_outright}

-- ---- steps

in_turn : {A B E : Type 0} (step : Result A E) (go : A → Result B E) (x : E) (First : Type 0) (Next : A → Type 0)
    → and_then step go ≡ Err x → (step ≡ Err x → First) → ((a : A) → step ≡ Ok a → go a ≡ Err x → Next a)
    → InTurn First step Next
in_turn (Ok a) go x First Next e first next = inr (next a refl e)
in_turn (Err y) go x First Next e first next = let same : y ≡ x = cc in inl (first (ap Err same))

at_turn : {A B : Type 0} (name : List ℕ) (at : ℕ) (r : Result A NodeFault) (go : A → Result B WalkFault) (x : WalkFault)
    (First : NodeFault → Type 0) (Next : A → Type 0) → and_then (at_stmt name at r) go ≡ Err x
    → ((y : NodeFault) → r ≡ Err y → First y) → ((a : A) → r ≡ Ok a → go a ≡ Err x → Next a)
    → InTurn (AtStatement name at First x) r Next
at_turn name at (Ok a) go x First Next e first next = inr (next a refl e)
at_turn name at (Err y) go x First Next e first next =
    let same : node_fails (place name at y.node) y.cause y.operands ≡ x = cc in inl (y, first y refl, sym same)

-- what is only kept behind a step doesn't refuse
kept_step : {A B E : Type 0} (r : Result A E) (keep : A → B) (x : E) → and_then r (λ a. Ok (keep a)) ≡ Err x → r ≡ Err x
kept_step (Ok a) keep x e = absurd (cc)
kept_step (Err y) keep x e = let same : y ≡ x = cc in ap Err same

node_passed : {A : Type 0} (node : ℕ) (operands : List Interval) (r : Result A RangeCause) (a : A) (x : NodeFault)
    → r ≡ Ok a → at_node node operands r ≡ Err x → ⊥
node_passed node _ (Ok b) a x p e = absurd (cc)
node_passed node _ (Err c) a x p e = absurd (cc)

module _ {A E : Type 0} (none : E) (first second : Ranges → Result A E) (meets : A → A → Result A E) (x : E)
    (First Second : Ranges → Type 0) (Meet : A → A → Type 0) where
  in_both : (s t : Ranges) (p q : Result A E) → and_then p (λ a. and_then q (meets a)) ≡ Err x
      → (p ≡ Err x → First s) → (q ≡ Err x → Second t)
      → ((a b : A) → p ≡ Ok a → q ≡ Ok b → meets a b ≡ Err x → Meet a b)
      → First s ⊎ Second t ⊎ IsOkAnd p (λ a. IsOkAnd q (Meet a))
  in_both s t (Err y) q e f g m = let same : y ≡ x = cc in inl (f (ap Err same))
  in_both s t (Ok a) (Err y) e f g m = let same : y ≡ x = cc in inr (inl (g (ap Err same)))
  in_both s t (Ok a) (Ok b) e f g m = inr (inr (m a b refl refl e))

  in_branches : (br : Branches) → IsTrue (is_some br.holds || is_some br.fails)
      → either_way none first second meets br.holds br.fails ≡ Err x
      → ((s : Ranges) → br.holds ≡ Some s → first s ≡ Err x → First s)
      → ((t : Ranges) → br.fails ≡ Some t → second t ≡ Err x → Second t)
      → ((s t : Ranges) (a b : A) → br.holds ≡ Some s → br.fails ≡ Some t → first s ≡ Ok a → second t ≡ Ok b
      → meets a b ≡ Err x → Meet a b)
      → InBranches First Second first second Meet br
  in_branches br some e f g m = by_both br.holds br.fails refl refl some e
    where
      by_both : (o p : Option Ranges) → br.holds ≡ o → br.fails ≡ p → IsTrue (is_some o || is_some p)
          → either_way none first second meets o p ≡ Err x
          → IsSomeAnd o First
          ⊎ IsSomeAnd p Second
          ⊎ IsSomeAnd o (λ s. IsSomeAnd p (λ t. IsOkAnd (first s) (λ a. IsOkAnd (second t) (Meet a))))
      by_both None None k l u v = absurd (cc)
      by_both (Some s) None k l u v = inl (f s k v)
      by_both None (Some t) k l u v = inr (inl (g t l v))
      by_both (Some s) (Some t) k l u v =
          in_both s t (first s) (second t) v (f s k) (g t l) (λ a b p q w. m s t a b k l p q w)

-- a branch that is walked can be reached
reached_some : {E : Type 0} (o : Option Ranges) (go : Ranges → Result Branches E) (x : E) (P : Ranges → Type 0)
    → reached o go ≡ Err x → ((s : Ranges) → o ≡ Some s → go s ≡ Err x → P s) → IsSomeAnd o P
reached_some None go x P e h = absurd (cc)
reached_some (Some s) go x P e h = h s refl e

there : (P : Ranges → Type 0) (o : Option Ranges) (s : Ranges) → IfSome o P → o ≡ Some s → P s
there P o s h e = subst (λ p. IfSome p P) e h

-- ---- expressions

item_refused : (items : List Decimal) (i : Interval) (node : ℕ) (x : NodeFault)
    → ((r : Interval) → item_row items i ≡ Ok r → item_range items i ≡ Ok r)
    → at_node node (i ∷ []) (item_range items i) ≡ Err x → at_node node (i ∷ []) (item_row items i) ≡ Err x
item_refused items i node x reads e = by_row (item_row items i) refl e
  where
    by_row : (o : RowAnswer) → item_row items i ≡ o → at_node node (i ∷ []) (read_item o) ≡ Err x
        → at_node node (i ∷ []) o ≡ Err x
    by_row (Ok r) k m =
        absurd (node_passed node _ (read_item (Ok r)) r x (subst (λ o. read_item o ≡ Ok r) k (reads r k)) m)
    by_row (Err c) k m = m

module _ (f : Flowchart) (typed : IsWellTyped f) (counts : IsWithinCounts f) (numbers : HoldsPlan f) where
  abbrev Stand : Ranges → Type 0
  Stand = Stands f typed counts numbers

  behind_test : (t : Term) (rs : Ranges) (at : ℕ) (br : Branches) → IsTypedTerm (scope_of f) t → KeepsScales t
      → Stand rs → tested (scope_of f) t at rs ≡ Ok br → GoesOn Stand Stand br
  behind_test t rs at br it keeps h e =
      goes_on f typed counts numbers t rs it keeps h Stand Stand (λ s k. k) (λ s k. k) at br e

  mutual
    row_refuses : (t : Term) (at : ℕ) (rs : Ranges) (x : NodeFault) → IsTypedTerm (scope_of f) t → KeepsScales t
        → HoldsTerm t → CanHaveRange (scope_of f) t → Stand rs → ranged (scope_of f) t at rs ≡ Err x
        → RowRefuses (scope_of f) t at rs x
    row_refuses (leaf l) at rs x it keeps held w h e =
        let r = reads_term f typed counts numbers (leaf l) rs it keeps held h in
        absurd (node_passed at _ (leaf_range (scope_of f) l rs) r.range x r.passes e)
    row_refuses (item y t) at rs x it keeps held w h e =
        let r = reads_term f typed counts numbers (item y t) rs it keeps held h in
        in_turn (ranged (scope_of f) t at rs)
        (λ i. at_node (at + nodes t) (i ∷ []) (item_range (table_in (scope_of f) y) i)) x _ _ e
        (λ k. row_refuses t at rs x it.0 keeps held w h k)
        (λ i k m. item_refused (table_in (scope_of f) y) i (at + nodes t) x (r.1 i) m)
    row_refuses (one op t) at rs x it keeps held w h e =
        in_turn (ranged (scope_of f) t at rs)
        (λ a. at_node (at + nodes t) (a ∷ []) (one_range op (kind_of (scope_of f) (one op t)) t a)) x _ _ e
        (λ k. row_refuses t at rs x it.0 keeps.1 held w.0 h k)
        (λ a k m. m)
    row_refuses (two op s t) at rs x it keeps held w h e =
        let node = at + nodes s + nodes t in
        let row = two_range (scope_of f) op (kind_of (scope_of f) (two op s t)) t in
        in_turn (ranged (scope_of f) s at rs)
        (λ a. and_then (ranged (scope_of f) t (at + nodes s) rs) (λ b. at_node node (a ∷ b ∷ []) (row a b))) x _ _ e
        (λ k. row_refuses s at rs x it.0 keeps.1 held.0 w.0 h k)
        (λ a k m.
        in_turn (ranged (scope_of f) t (at + nodes s) rs) (λ b. at_node node (a ∷ b ∷ []) (row a b)) x _ _ m
        (λ l. row_refuses t (at + nodes s) rs x it.1 keeps.2 held.1 w.1 h l)
        (λ b l n. n))
    row_refuses (choice c s t) at rs x it keeps held w h e =
        let node = at + nodes c + nodes s + nodes t in
        let first = ranged (scope_of f) s (at + nodes c) in
        let second = ranged (scope_of f) t (at + nodes c + nodes s) in
        let joins = λ (a b : Interval). at_node node (a ∷ b ∷ []) (join_row a b) in
        in_turn (tested (scope_of f) c at rs)
        (λ br. either_way (nowhere node) first second joins br.holds br.fails) x _ _ e
        (λ k. test_refuses c at rs x it.0 keeps.0 held.0 w.0 h k)
        (λ br k m.
        let on = behind_test c rs at br it.0 keeps.0 h k in
        in_branches (nowhere node) first second joins x _ _ _ br on.some m
        (λ u p q.
        row_refuses s (at + nodes c) u x it.1 keeps.1 held.1 w.1 (there Stand br.holds u on.holds p) q)
        (λ v p q.
        row_refuses t (at + nodes c + nodes s) v x it.2 keeps.2 held.2 w.2 (there Stand br.fails v on.fails p) q)
        (λ u v a b p q i j z. z))

    test_refuses : (t : Term) (at : ℕ) (rs : Ranges) (x : NodeFault) → IsTypedTerm (scope_of f) t → KeepsScales t
        → HoldsTerm t → CanHaveBranches (scope_of f) t → Stand rs → tested (scope_of f) t at rs ≡ Err x
        → TestRefuses (scope_of f) t at rs x
    test_refuses (one (unary Not) t) at rs x it keeps held w h e =
        test_refuses t at rs x it.0 keeps.1 held w h (kept_step (tested (scope_of f) t at rs) opposite x e)
    test_refuses (two (operator And) s t) at rs x it keeps held w h e =
        let go = tested (scope_of f) t (at + nodes s) in
        in_turn (tested (scope_of f) s at rs) (λ l. and_then (reached l.holds go) (λ r. Ok (both_hold rs l r))) x _ _ e
        (λ k. test_refuses s at rs x it.0 keeps.1 held.0 w.0 h k)
        (λ l k m.
        let on = behind_test s rs at l it.0 keeps.1 h k in
        reached_some l.holds go x _ (kept_step (reached l.holds go) (both_hold rs l) x m)
        (λ u p q. test_refuses t (at + nodes s) u x it.1 keeps.2 held.1 w.1 (there Stand l.holds u on.holds p) q))
    test_refuses (two (operator Or) s t) at rs x it keeps held w h e =
        let go = tested (scope_of f) t (at + nodes s) in
        in_turn (tested (scope_of f) s at rs) (λ l. and_then (reached l.fails go) (λ r. Ok (one_holds rs l r))) x _ _ e
        (λ k. test_refuses s at rs x it.0 keeps.1 held.0 w.0 h k)
        (λ l k m.
        let on = behind_test s rs at l it.0 keeps.1 h k in
        reached_some l.fails go x _ (kept_step (reached l.fails go) (one_holds rs l) x m)
        (λ u p q. test_refuses t (at + nodes s) u x it.1 keeps.2 held.1 w.1 (there Stand l.fails u on.fails p) q))
    test_refuses (two (operator op) s t) at rs x it keeps held w h e =
        let node = at + nodes s + nodes t in
        let scope = scope_of f in
        let inner = compare_sides scope s at rs in
        let answer = λ (a b : Interval).
        compared op (are_whole scope s t) (sides s t a b) inner (int_literal t) rs in
        let go = λ (a b : Interval).
        and_then (at_node node (a ∷ b ∷ []) (comparison_range op a b)) (λ r. Ok (answer a b)) in
        in_turn (ranged scope s at rs) (λ a. and_then (ranged scope t (at + nodes s) rs) (go a)) x _ _ e
        (λ k. row_refuses s at rs x it.0 keeps.1 held.0 w.0 h k)
        (λ a k m.
        in_turn (ranged scope t (at + nodes s) rs) (go a) x _ _ m
        (λ l. row_refuses t (at + nodes s) rs x it.1 keeps.2 held.1 w.1 h l)
        (λ b l n. kept_step (at_node node (a ∷ b ∷ []) (comparison_range op a b)) (λ r. answer a b) x n))
    test_refuses _ at rs x it keeps held w h e = absurd w

  -- ---- statements

  stands_after : (n : ℕ) (name : List ℕ) (b : Body) (at : ℕ) (rs ends : Ranges) → IsTypedBody (scope_of f) f.methods b
      → AreSmallTerms b → Stand rs
      → walked (scope_of f) (range_calls_of (scope_of f) f.methods n) name at b rs ≡ Ok ends → Stand ends
  stands_after n name b at rs ends it small h e =
      let types = has_types f typed in
      record {
        shaped = shaped_after f types counts n name b at rs ends it small h.shaped e;
        filled = filled_after f types counts n name b at rs ends it small h.filled e;
      }

-- where two lists of the same variables aren't joined, some two of their ranges aren't
join_refuses : (node : ℕ) (u v : Ranges) (y : NodeFault) → names_in u ≡ names_in v → at_node node [] (joined u v) ≡ Err y
    → JoinRefuses node u v y
join_refuses node [] [] y n e = absurd (cc)
join_refuses node [] (w ∷ ws) y n e = absurd (cc)
join_refuses node (r ∷ rs) [] y n e = absurd (cc)
join_refuses node (r ∷ rs) (s ∷ ss) y n e =
    let rest : names_in rs ≡ names_in ss = cc in
    by_row (join_row r.range s.range) (joined rs ss) e (join_refuses node rs ss y rest)
  where
    by_row : (o : RowAnswer) (p : Result Ranges RangeCause)
        → at_node node [] (and_then o (λ a. and_then p (λ z. Ok (record r { range = a } ∷ z)))) ≡ Err y
        → (at_node node [] p ≡ Err y → JoinRefuses node rs ss y)
        → (at_node node [] o ≡ Err y) ⊎ JoinRefuses node rs ss y
    by_row (Err c) p g later = let same : record { node = node; cause = c; operands = [] } ≡ y = cc in inl (ap Err same)
    by_row (Ok a) (Err c) g later = let same : record { node = node; cause = c; operands = [] } ≡ y = cc in inr (later (ap Err same))
    by_row (Ok a) (Ok z) g later = absurd (cc)

meet_refuses : (name : List ℕ) (at node : ℕ) (u v : Ranges) (x : WalkFault) → names_in u ≡ names_in v
    → meet name at node u v ≡ Err x → AtStatement name at (JoinRefuses node u v) x
meet_refuses name at node u v x n e = by_join (at_node node [] (joined u v)) refl e
  where
    by_join : (o : Result Ranges NodeFault) → at_node node [] (joined u v) ≡ o → at_stmt name at o ≡ Err x
        → AtStatement name at (JoinRefuses node u v) x
    by_join (Ok z) k g = absurd (cc)
    by_join (Err y) k g =
        let same : node_fails (place name at y.node) y.cause y.operands ≡ x = cc in
        (y, join_refuses node u v y n k, sym same)

branch_turn : (name : List ℕ) (at : ℕ) (r : Result Branches NodeFault) (either : Branches → Result Ranges WalkFault)
    (go : Ranges → Result Ranges WalkFault) (x : WalkFault) (First : NodeFault → Type 0) (Inside : Branches → Type 0)
    (Rest : Ranges → Type 0) → and_then (at_stmt name at r) (λ br. and_then (either br) go) ≡ Err x
    → ((y : NodeFault) → r ≡ Err y → First y)
    → ((br : Branches) → r ≡ Ok br → either br ≡ Err x → Inside br)
    → ((br : Branches) (mid : Ranges) → r ≡ Ok br → either br ≡ Ok mid → go mid ≡ Err x → Rest mid)
    → InTurn (InTurn (AtStatement name at First x) r Inside)
    (and_then (at_stmt name at r) (λ br. and_then (either br) Ok)) Rest
branch_turn name at (Err y) either go x First Inside Rest e f g h =
    let same : node_fails (place name at y.node) y.cause y.operands ≡ x = cc in inl (inl (y, f y refl, sym same))
branch_turn name at (Ok br) either go x First Inside Rest e f g h = by_mid (either br) refl e
  where
    by_mid : (q : Result Ranges WalkFault) → either br ≡ q → and_then q go ≡ Err x
        → InTurn (InTurn {E = NodeFault} (AtStatement name at First x) (Ok br) Inside) (and_then {B = Ranges} q Ok) Rest
    by_mid (Err z) k m = let same : z ≡ x = cc in inl (inr (g br refl (k ∙ ap Err same)))
    by_mid (Ok mid) k m = inr (h br mid refl k m)

module _ (f : Flowchart) (typed : IsWellTyped f) (counts : IsWithinCounts f) (numbers : HoldsPlan f) (n : ℕ)
    (x : WalkFault)
    (calls_refuse : (m : List ℕ) (rs : Ranges) → EntersWithin (scope_of f) f.methods n m
    → Stands f typed counts numbers rs → range_calls_of (scope_of f) f.methods n m rs ≡ Err x
    → CallsRefuse (scope_of f) f.methods n m rs x)
    (name : List ℕ) where
  abbrev call : RangeCalls
  call = range_calls_of (scope_of f) f.methods n

  abbrev Refuses : ℕ → Body → Ranges → Type 0
  Refuses = BodyRefuses (scope_of f) call (CallsRefuse (scope_of f) f.methods n) name x

  body_refuses : (b : Body) (at : ℕ) (rs : Ranges) → IsTypedBody (scope_of f) f.methods b → AreSmallTerms b
      → HoldsBody b → CanBeWalked (scope_of f) (EntersWithin (scope_of f) f.methods n) b
      → Stands f typed counts numbers rs → walked (scope_of f) call name at b rs ≡ Err x → Refuses at b rs
  body_refuses done at rs it small held w h e = absurd (cc)
  body_refuses (eval y t rest) at rs it small held w h e =
      at_turn name at (ranged (scope_of f) t 0 rs)
      (λ a. walked (scope_of f) call name (at + 1) rest (assigned_range (scope_of f) y a rs)) x _ _ e
      (λ z k. row_refuses f typed counts numbers t 0 rs z it.0 small.0.scales held.0 w.0 h k)
      (λ a k m.
      let ends = assigned_range (scope_of f) y a rs in
      let passes : walked (scope_of f) call name at (eval y t done) rs ≡ Ok ends = rw k refl in
      let g = stands_after f typed counts numbers n name (eval y t done) at rs ends (it.0, it.1, tt) (small.0, tt) h
      passes in
      body_refuses rest (at + 1) ends it.2 small.1 held.1 w.1 g m)
  body_refuses (branch t a b rest) at rs it small held w h e =
      let first = walked (scope_of f) call name (at + 1) a in
      let second = walked (scope_of f) call name (at + 1 + written a) b in
      let none = node_fails (place name at (last_node t)) Wide [] in
      let either = λ (br : Branches). either_way none first second (meet name at (last_node t)) br.holds br.fails in
      branch_turn name at (tested (scope_of f) t 0 rs) either
      (walked (scope_of f) call name (at + 1 + written a + written b) rest) x _ _ _ e
      (λ y k. test_refuses f typed counts numbers t 0 rs y it.0 small.0.scales held.0 w.0 h k)
      (λ br k m.
      let on = behind_test f typed counts numbers t rs 0 br it.0 small.0.scales h k in
      let named = tested_named (scope_of f) t 0 rs br k in
      in_branches none first second (meet name at (last_node t)) x _ _ _ br on.some m
      (λ u p q.
      let g = there (Stands f typed counts numbers) br.holds u on.holds p in
      body_refuses a (at + 1) u it.2 small.1 held.1 w.1 g q)
      (λ v p q.
      let g = there (Stands f typed counts numbers) br.fails v on.fails p in
      body_refuses b (at + 1 + written a) v it.3 small.2 held.2 w.2 g q)
      (λ u v y z p q i j g.
      let left = after a (at + 1) u y i ∙ named.holds u p in
      let right = after b (at + 1 + written a) v z j ∙ named.fails v q in
      meet_refuses name at (last_node t) y z x (left ∙ sym right) g))
      (λ br mid k l m.
      let passes : walked (scope_of f) call name at (branch t a b done) rs ≡ Ok mid = rw (k, l) refl in
      let g = stands_after f typed counts numbers n name (branch t a b done) at rs mid
      (it.0, it.1, it.2, it.3, tt) (small.0, small.1, small.2, tt) h passes in
      body_refuses rest (at + 1 + written a + written b) mid it.4 small.3 held.3 w.3 g m)
    where
      after : (c : Body) (i : ℕ) (u y : Ranges) → walked (scope_of f) call name i c u ≡ Ok y → names_in y ≡ names_in u
      after c i u y k = walked_named (scope_of f) call name (calls_named (scope_of f) f.methods n) c i u y k
  body_refuses (execute m rest) at rs it small held w h e =
      in_turn (call m rs) (walked (scope_of f) call name (at + 1) rest) x _ _ e
      (λ k. calls_refuse m rs w.0 h k)
      (λ ends k g.
      let passes : walked (scope_of f) call name at (execute m done) rs ≡ Ok ends = rw k refl in
      let s = stands_after f typed counts numbers n name (execute m done) at rs ends (it.0, tt) tt h passes in
      body_refuses rest (at + 1) ends it.1 small held w.1 s g)

module _ (f : Flowchart) (typed : IsWellTyped f) (counts : IsWithinCounts f) (numbers : HoldsPlan f)
    (x : WalkFault) where
  calls_refuse : (n : ℕ) (m : List ℕ) (rs : Ranges) → EntersWithin (scope_of f) f.methods n m
      → Stands f typed counts numbers rs → range_calls_of (scope_of f) f.methods n m rs ≡ Err x
      → CallsRefuse (scope_of f) f.methods n m rs x
  unfolding EntersWithin range_calls_of CallsRefuse
  calls_refuse zero m rs w h e = absurd w
  calls_refuse (suc n) m rs w h e =
      let ms = f.methods in
      let types = has_types f typed in
      let b = w.0 in
      let is = w.1 in
      let go : walked (scope_of f) (range_calls_of (scope_of f) ms n) m 0 b rs ≡ Err x =
      subst (λ o. with_body m o (λ b. walked (scope_of f) (range_calls_of (scope_of f) ms n) m 0 b rs) ≡ Err x) is e in
      let refused = body_refuses f typed counts numbers n x (calls_refuse n) m b 0 rs
      (found_method (IsTypedBody (scope_of f) ms) ms types.methods m b is)
      (found_method AreSmallTerms ms counts.terms m b is)
      (found_method HoldsBody ms numbers.methods m b is)
      w.2 h go in
      let Refuses = λ (b : Body).
      BodyRefuses (scope_of f) (range_calls_of (scope_of f) ms n) (CallsRefuse (scope_of f) ms n) m x 0 b rs in
      subst (λ o. IsSomeAnd o Refuses) (sym is) refused

-- ---- the plan

pub refusals_rows : RefusalsAreRows
refusals_rows f limits x typed counts numbers short have e =
    let types = has_types f typed in
    let w = (refused_outright f typed short).main in
    let start = start_ranges f limits in
    let h : Stands f typed counts numbers start = record {
      shaped = (reading_free f typed counts numbers.declared).start limits have;
      filled = (none_empty f typed counts).start limits have;
    } in
    let calls = calls_refuse f typed counts numbers x longest_chain in
    in_turn (walked (scope_of f) (range_calls_in f) main_name 0 f.main start)
    (λ ends. unless_unbounded (output_ranges f ends)) x _ _ e
    (λ k.
    body_refuses f typed counts numbers longest_chain x calls main_name f.main 0 start types.main counts.main_terms
    numbers.main w h k)
    (λ ends k g. g)
