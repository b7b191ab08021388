-- What narrowing, joins and assignments keep of each variable's range the walk keeps.
use Rattle.std.proofs.Common.{◌≡◌, ℕ, zero, suc, ◌+◌, ℤ, pos, ◌+ℤ◌, ◌-ℤ◌, ◌≤ℤ◌, int_le, List, [], ◌∷◌, Bool, true, false, ◌||◌, if◌then◌else◌, Option, Some, None, Result, Ok, refl, sym, ◌∙◌, subst, arith}
use Rattle.std.specs.Prelude.{All, is_some}
use Rattle.std.specs.Int.{int_min, int_max}
use Rattle.std.specs.Ordering.{int_eq}
use Rattle.std.specs.Option.{option_map, option_and_then}
use Rattle.std.specs.Str.{bytes_eq}
use Rattle.std.proofs.lemmas.Int.{ints, clamps}
use Rattle.std.proofs.lemmas.List.Elements.{All-cons, All-head, All-tail}
use Rattle.scaled_decimal.specs.Decimals.{Decimal}
use Rattle.pap_tree.specs.declared.expression.Unary.TheVariants.{Not}
use Rattle.pap_tree.specs.declared.expression.Binary.{Binary}
use Rattle.pap_tree.specs.declared.expression.Binary.TheVariants.{And, Or}
use Rattle.pap_tree.specs.Term.{whole, long, point, text, known, named, Term, leaf, item, one, two, choice, unary, operator}
use Rattle.pap_tree.specs.Numbering.{nodes}
use Rattle.pap_tree.specs.Scales.{KeepsScales}
use Rattle.pap_tree.specs.Flowchart.{Body, done, eval, branch, execute, Routine}
use Rattle.pap_tree.specs.Statements.{written}
use Rattle.interval_num.specs.declared.cause.RangeCause.TheVariants.{Wide}
use Rattle.interval_num.specs.declared.sign_set.SignSet.{SignSet}
use Rattle.interval_num.specs.Intervals.{Interval, interval}
use Rattle.interval_num.specs.Rows.{join_row}
use Rattle.interval_num.specs.Signs.{signs_of}
use Rattle.interval_num.specs.Refinement.{refined, is_apart, without_end, unless_empty, low_end, high_end}
use Rattle.pap_types.specs.Scopes.{Scope}
use Rattle.pap_types.specs.Kinds.{int_literal}
use Rattle.pap_types.specs.Checks.{place, last_node}
use Rattle.pap_types.specs.Typing.{IsTypedTerm, IsTypedBody, TargetSuits}
use Rattle.pap_types.specs.Routines.{body_named}
use Rattle.pap_types.specs.Counts.{AreSmallTerms}
use Rattle.interval_walk.specs.Ranges.{NamedRange, Ranges, names_in, range_named, put_range}
use Rattle.interval_walk.specs.Failures.{NodeFault, WalkFault, node_fails, and_then, at_node, at_stmt}
use Rattle.interval_walk.specs.NodeRanges.{comparison_range}
use Rattle.interval_walk.specs.Branches.{Branches, Sides, sides, narrowed_name, narrowed, can_have, exchanged, others, branch_of, branches_of, compared, opposite, no_branch, reached, before, both_hold, one_holds, either_way}
use Rattle.interval_walk.specs.Ranged.{ranged, compare_sides, tested, are_whole}
use Rattle.interval_walk.specs.Walked.{assigned_range, joined, RangeCalls, walked, with_body, range_calls_of}
use Rattle.interval_walk.proofs.NodeShapes.{stepped}
use Rattle.interval_walk.proofs.BranchSound.{unless_same}
use Rattle.interval_walk.proofs.NameLemmas.{StayNamed, put_names, tested_named, joined_named, passed_stmt, meet, met}
use Rattle.interval_walk.proofs.WalkSound.{found_method}

-- ---- refinement

-- a range within another, and not empty
pub record IsInside (v r : Interval) : Type 0 where
  pub low : v.lo ≤ℤ r.lo
  pub high : r.hi ≤ℤ v.hi
  pub order : r.lo ≤ℤ r.hi
  pub least_scale : r.s_lo ≡ v.s_lo
  pub greatest_scale : r.s_hi ≡ v.s_hi

low_raised : (t : Bool) (l m : ℤ) → l ≤ℤ (if t then l else int_max l m)
low_raised true l m = omega (arith, ints)
low_raised false l m = omega (arith, ints, clamps)

high_lowered : (t : Bool) (h m : ℤ) → (if t then h else int_min h m) ≤ℤ h
high_lowered true h m = omega (arith, ints)
high_lowered false h m = omega (arith, ints, clamps)

past_above : (n l : ℤ) (t : Bool) → l ≤ℤ (if t then l +ℤ pos 1 else l)
past_above n l true = omega (arith, ints)
past_above n l false = omega (arith, ints)

short_below : (n h : ℤ) (t : Bool) → (if t then h -ℤ pos 1 else h) ≤ℤ h
short_below n h true = omega (arith, ints)
short_below n h false = omega (arith, ints)

not_empty : (v r : Interval) → unless_empty v ≡ Some r → v.lo ≤ℤ v.hi
not_empty v r e = by_order (int_le v.lo v.hi) refl e
  where
    by_order : (t : Bool) → int_le v.lo v.hi ≡ t → (if t then Some v else None) ≡ Some r → v.lo ≤ℤ v.hi
    by_order true f g = omega (arith, ints)
    by_order false f g = absurd (cc)

pub refined_inside : (v e r : Interval) (allowed : SignSet) (t : Bool) → refined v e allowed t ≡ Some r → IsInside v r
refined_inside v e r allowed t f = by_apart (is_apart e allowed t) f
  where
    part : Interval
    part = interval (low_end v e allowed t) (high_end v e allowed t) v.s_lo v.s_hi

    low : v.lo ≤ℤ low_end v e allowed t
    low = low_raised allowed.minus v.lo _

    high : high_end v e allowed t ≤ℤ v.hi
    high = high_lowered allowed.plus v.hi _

    by_apart : (u : Bool) → unless_empty (if u then without_end e.lo part else part) ≡ Some r → IsInside v r
    by_apart true g =
        let o = not_empty (without_end e.lo part) r g in
        let l = past_above e.lo (low_end v e allowed t) (int_eq (low_end v e allowed t) e.lo) in
        let h = short_below e.lo (high_end v e allowed t) (int_eq (high_end v e allowed t) e.lo) in
        subst (IsInside v) (unless_same (without_end e.lo part) r g) (record { low = omega (arith, ints, low, l); high = omega (arith, ints, high, h); order = o; least_scale = refl; greatest_scale = refl })
    by_apart false g =
        let o = not_empty part r g in
        subst (IsInside v) (unless_same part r g) (record { low = low; high = high; order = o; least_scale = refl; greatest_scale = refl })

-- ---- what is kept

-- of each range of a branch, where it can be reached
abbrev pub KeptIf : (NamedRange → Type 0) → Option Ranges → Type 0
KeptIf P o = (s : Ranges) → o ≡ Some s → All P s

pub record BranchesKept (P : NamedRange → Type 0) (br : Branches) : Type 0 where
  pub holds : KeptIf P br.holds
  pub fails : KeptIf P br.fails

-- the names of the variables, and it of their ranges
pub record VariablesKept (names : List (List ℕ)) (P : NamedRange → Type 0) (rs : Ranges) : Type 0 where
  pub named : names_in rs ≡ names
  pub ranges : All P rs

-- ---- tests

module _ (scope : Scope) (P : NamedRange → Type 0) (narrows : (v : NamedRange) (a : Interval) → IsInside v.range a → P v → P (record v { range = a })) where
  -- a range that is found, replaced by one within it
  put_narrowed : (rs : Ranges) (x : List ℕ) (v a : Interval) → All P rs → range_named rs x ≡ Some v → IsInside v a → All P (put_range rs x a)
  put_narrowed [] x v a h f i = h
  put_narrowed (r ∷ rs) x v a h f i = by_test (bytes_eq r.name x) f (λ g. put_narrowed rs x v a (All-tail P r rs h) g i)
    where
      by_test : (t : Bool) → (if t then Some r.range else range_named rs x) ≡ Some v → (range_named rs x ≡ Some v → All P (put_range rs x a)) → All P (if t then record r { range = a } ∷ rs else r ∷ put_range rs x a)
      by_test true g later =
          let same : v ≡ r.range = cc in
          All-cons P (record r { range = a }) rs (narrows r a (subst (λ v. IsInside v a) same i) (All-head P r rs h)) (All-tail P r rs h)
      by_test false g later = All-cons P r (put_range rs x a) (All-head P r rs h) (later g)

  same_kept : (rs : Ranges) → All P rs → KeptIf P (Some rs)
  same_kept rs h s e = let same : rs ≡ s = cc in subst (All P) same h

  none_kept : KeptIf P None
  none_kept s e = absurd (cc)

  module _ (t : Bool) (allowed : SignSet) (e : Interval) (rs : Ranges) (h : All P rs) where
    name_kept : (x : List ℕ) (o : Option Interval) → range_named rs x ≡ o → KeptIf P (narrowed_name t allowed x e rs o)
    name_kept x None f = same_kept rs h
    name_kept x (Some v) f = by_part (refined v e allowed t) refl
      where
        by_part : (o : Option Interval) → refined v e allowed t ≡ o → KeptIf P (option_map (put_range rs x) o)
        by_part None g s p = none_kept s p
        by_part (Some a) g s p =
            let same : put_range rs x a ≡ s = cc in
            subst (All P) same (put_narrowed rs x v a h f (refined_inside v e a allowed t g))

    narrowed_kept : (u : Term) → KeptIf P (narrowed t allowed u e rs)
    narrowed_kept (leaf (named x)) = name_kept x (range_named rs x) refl
    narrowed_kept (leaf (whole i)) = same_kept rs h
    narrowed_kept (leaf (long i)) = same_kept rs h
    narrowed_kept (leaf (point i)) = same_kept rs h
    narrowed_kept (leaf (text i)) = same_kept rs h
    narrowed_kept (leaf (known i)) = same_kept rs h
    narrowed_kept (item x i) = same_kept rs h
    narrowed_kept (one op i) = same_kept rs h
    narrowed_kept (two op i j) = same_kept rs h
    narrowed_kept (choice c i j) = same_kept rs h

  branch_kept : (t : Bool) (allowed : SignSet) (s : Sides) (rs : Ranges) → All P rs → KeptIf P (branch_of t allowed s rs)
  branch_kept t allowed s rs h = by_can (can_have allowed (signs_of s.left_range s.right_range))
    where
      by_left : (o : Option Ranges) → KeptIf P o → KeptIf P (option_and_then (narrowed t (exchanged allowed) s.right s.left_range) o)
      by_left None k u g = none_kept u g
      by_left (Some r) k u g = narrowed_kept t (exchanged allowed) s.left_range r (k r refl) s.right u g

      by_can : (b : Bool) → KeptIf P (if b then option_and_then (narrowed t (exchanged allowed) s.right s.left_range) (narrowed t allowed s.left s.right_range rs) else None)
      by_can true = by_left (narrowed t allowed s.left s.right_range rs) (narrowed_kept t allowed s.right_range rs h s.left)
      by_can false = none_kept

  branches_kept : (t : Bool) (allowed : SignSet) (s : Sides) (rs : Ranges) → All P rs → BranchesKept P (branches_of t allowed s rs)
  branches_kept t allowed s rs h = record { holds = branch_kept t allowed s rs h; fails = branch_kept t (others allowed) s rs h }

  compared_kept : (op : Binary) (t : Bool) (direct : Sides) (i : Option Sides) (k : Option Decimal) (rs : Ranges) → All P rs → BranchesKept P (compared op t direct i k rs)
  compared_kept op t direct (Some s) (Some k) rs h = branches_kept false _ s rs h
  compared_kept op t direct (Some s) None rs h = branches_kept t _ direct rs h
  compared_kept op t direct None k rs h = branches_kept t _ direct rs h

  before_kept : (rs : Ranges) (o p : Option Ranges) → All P rs → KeptIf P (before rs o p)
  before_kept rs o p h = by_test (is_some o || is_some p)
    where
      by_test : (t : Bool) → KeptIf P (if t then Some rs else None)
      by_test true = same_kept rs h
      by_test false = none_kept

  reached_kept : (o : Option Ranges) (go : Ranges → Result Branches NodeFault) (r : Branches) → KeptIf P o → ((s : Ranges) → All P s → go s ≡ Ok r → BranchesKept P r) → reached o go ≡ Ok r → BranchesKept P r
  reached_kept None go r h later e = let same : no_branch ≡ r = cc in subst (BranchesKept P) same (record { holds = none_kept; fails = none_kept })
  reached_kept (Some s) go r h later e = later s (h s refl) e

  pub tested_kept : (t : Term) (at : ℕ) (rs : Ranges) (br : Branches) → All P rs → tested scope t at rs ≡ Ok br → BranchesKept P br
  tested_kept (one (unary Not) t) at rs br w e =
      let s = stepped (tested scope t at rs) (λ b. Ok (opposite b)) br e in
      let same : opposite s.0 ≡ br = let f = s.2 in cc in
      let h = tested_kept t at rs s.0 w s.1 in
      subst (BranchesKept P) same (record { holds = h.fails; fails = h.holds })
  tested_kept (two (operator And) s t) at rs br w e =
      let go = tested scope t (at + nodes s) in
      let l = stepped (tested scope s at rs) (λ l. and_then (reached l.holds go) (λ r. Ok (both_hold rs l r))) br e in
      let r = stepped (reached l.0.holds go) (λ r. Ok (both_hold rs l.0 r)) br l.2 in
      let same : both_hold rs l.0 r.0 ≡ br = let f = r.2 in cc in
      let h = tested_kept s at rs l.0 w l.1 in
      let k = reached_kept l.0.holds go r.0 h.holds (λ u v g. tested_kept t (at + nodes s) u r.0 v g) r.1 in
      subst (BranchesKept P) same (record { holds = k.holds; fails = before_kept rs l.0.fails r.0.fails w })
  tested_kept (two (operator Or) s t) at rs br w e =
      let go = tested scope t (at + nodes s) in
      let l = stepped (tested scope s at rs) (λ l. and_then (reached l.fails go) (λ r. Ok (one_holds rs l r))) br e in
      let r = stepped (reached l.0.fails go) (λ r. Ok (one_holds rs l.0 r)) br l.2 in
      let same : one_holds rs l.0 r.0 ≡ br = let f = r.2 in cc in
      let h = tested_kept s at rs l.0 w l.1 in
      let k = reached_kept l.0.fails go r.0 h.fails (λ u v g. tested_kept t (at + nodes s) u r.0 v g) r.1 in
      subst (BranchesKept P) same (record { holds = before_kept rs l.0.holds r.0.holds w; fails = k.fails })
  tested_kept (two (operator op) s t) at rs br w e =
      let node = at + nodes s + nodes t in
      let answer = λ (a b : Interval). compared op (are_whole scope s t) (sides s t a b) (compare_sides scope s at rs) (int_literal t) rs in
      let a = stepped (ranged scope s at rs) (λ a. and_then (ranged scope t (at + nodes s) rs) (λ b. and_then (at_node node (a ∷ b ∷ []) (comparison_range op a b)) (λ r. Ok (answer a b)))) br e in
      let b = stepped (ranged scope t (at + nodes s) rs) (λ b. and_then (at_node node (a.0 ∷ b ∷ []) (comparison_range op a.0 b)) (λ r. Ok (answer a.0 b))) br a.2 in
      let r = stepped (at_node node (a.0 ∷ b.0 ∷ []) (comparison_range op a.0 b.0)) (λ r. Ok (answer a.0 b.0)) br b.2 in
      let same : answer a.0 b.0 ≡ br = let f = r.2 in cc in
      subst (BranchesKept P) same (compared_kept op (are_whole scope s t) (sides s t a.0 b.0) (compare_sides scope s at rs) (int_literal t) rs w)
  tested_kept _ at rs br w e = absurd (cc)

  -- ---- statements

  module _ (names : List (List ℕ))
      (joins : (v w : NamedRange) (a : Interval) → v.name ≡ w.name → P v → P w → join_row v.range w.range ≡ Ok a → P (record v { range = a }))
      (assigns : (x : List ℕ) (e : Term) (rs : Ranges) (a : Interval) → IsTypedTerm scope e → TargetSuits scope x e → KeepsScales e → names_in rs ≡ names → All P rs → ranged scope e 0 rs ≡ Ok a → All P (assigned_range scope x a rs)) where
    joined_kept : (rs ss zs : Ranges) → names_in rs ≡ names_in ss → All P rs → All P ss → joined rs ss ≡ Ok zs → All P zs
    joined_kept [] [] zs n hr hs e = let same : [] ≡ zs = cc in subst (All P) same hr
    joined_kept [] (s ∷ ss) zs n hr hs e = absurd (cc)
    joined_kept (r ∷ rs) [] zs n hr hs e = absurd (cc)
    joined_kept (r ∷ rs) (s ∷ ss) zs n hr hs e =
        let a = stepped (join_row r.range s.range) (λ a. and_then (joined rs ss) (λ o. Ok (record r { range = a } ∷ o))) zs e in
        let o = stepped (joined rs ss) (λ o. Ok (record r { range = a.0 } ∷ o)) zs a.2 in
        let same : record r { range = a.0 } ∷ o.0 ≡ zs = let f = o.2 in cc in
        let first : r.name ≡ s.name = cc in
        let rest : names_in rs ≡ names_in ss = cc in
        let here = joins r s a.0 first (All-head P r rs hr) (All-head P s ss hs) a.1 in
        subst (All P) same (All-cons P (record r { range = a.0 }) o.0 here (joined_kept rs ss o.0 rest (All-tail P r rs hr) (All-tail P s ss hs) o.1))

    kept_if : (rs s : Ranges) (o : Option Ranges) → VariablesKept names P rs → StayNamed rs o → KeptIf P o → o ≡ Some s → VariablesKept names P s
    kept_if rs s o h n k e = record { named = n s e ∙ h.named; ranges = k s e }

    either_kept : (name : List ℕ) (at node : ℕ) (none : WalkFault) (first second : Ranges → Result Ranges WalkFault) (z : Ranges) (o p : Option Ranges) → ((s : Ranges) → o ≡ Some s → VariablesKept names P s) → ((s : Ranges) → p ≡ Some s → VariablesKept names P s) → ((s u : Ranges) → VariablesKept names P s → first s ≡ Ok u → VariablesKept names P u) → ((s u : Ranges) → VariablesKept names P s → second s ≡ Ok u → VariablesKept names P u) → either_way none first second (meet name at node) o p ≡ Ok z → VariablesKept names P z
    either_kept name at node none first second z None None so sp hf hs e = absurd (cc)
    either_kept name at node none first second z (Some s) None so sp hf hs e = hf s z (so s refl) e
    either_kept name at node none first second z None (Some s) so sp hf hs e = hs s z (sp s refl) e
    either_kept name at node none first second z (Some s) (Some t) so sp hf hs e =
        let x = stepped (first s) (λ x. and_then (second t) (λ y. meet name at node x y)) z e in
        let y = stepped (second t) (λ y. meet name at node x.0 y) z x.2 in
        let hx = hf s x.0 (so s refl) x.1 in
        let hy = hs t y.0 (sp t refl) y.1 in
        let join = met name at node x.0 y.0 z y.2 in
        record { named = joined_named x.0 y.0 z join ∙ hx.named; ranges = joined_kept x.0 y.0 z (hx.named ∙ sym hy.named) hx.ranges hy.ranges join }

    module _ (methods : List Routine) (call : RangeCalls) (name : List ℕ) (hc : (m : List ℕ) (rs z : Ranges) → VariablesKept names P rs → call m rs ≡ Ok z → VariablesKept names P z) where
      pub walked_kept : (b : Body) (at : ℕ) (rs z : Ranges) → IsTypedBody scope methods b → AreSmallTerms b → VariablesKept names P rs → walked scope call name at b rs ≡ Ok z → VariablesKept names P z
      walked_kept done at rs z typed small h e = let same : rs ≡ z = cc in subst (VariablesKept names P) same h
      walked_kept (eval x t rest) at rs z typed small h e =
          let a = stepped (at_stmt name at (ranged scope t 0 rs)) (λ a. walked scope call name (at + 1) rest (assigned_range scope x a rs)) z e in
          let given = passed_stmt name at (ranged scope t 0 rs) a.0 a.1 in
          let behind : VariablesKept names P (assigned_range scope x a.0 rs) = record { named = put_names rs x _ ∙ h.named; ranges = assigns x t rs a.0 typed.0 typed.1 small.0.scales h.named h.ranges given } in
          walked_kept rest (at + 1) (assigned_range scope x a.0 rs) z typed.2 small.1 behind a.2
      walked_kept (branch t a b rest) at rs z typed small h e =
          let none = node_fails (place name at (last_node t)) Wide [] in
          let first = walked scope call name (at + 1) a in
          let second = walked scope call name (at + 1 + written a) b in
          let go = walked scope call name (at + 1 + written a + written b) rest in
          let br = stepped (at_stmt name at (tested scope t 0 rs)) (λ br. and_then (either_way none first second (meet name at (last_node t)) br.holds br.fails) go) z e in
          let mid = stepped (either_way none first second (meet name at (last_node t)) br.0.holds br.0.fails) go z br.2 in
          let passed = passed_stmt name at (tested scope t 0 rs) br.0 br.1 in
          let n = tested_named scope t 0 rs br.0 passed in
          let k = tested_kept t 0 rs br.0 h.ranges passed in
          walked_kept rest (at + 1 + written a + written b) mid.0 z typed.4 small.3
          (either_kept name at (last_node t) none first second mid.0 br.0.holds br.0.fails
          (λ s g. kept_if rs s br.0.holds h n.holds k.holds g)
          (λ s g. kept_if rs s br.0.fails h n.fails k.fails g)
          (λ s u v g. walked_kept a (at + 1) s u typed.2 small.1 v g)
          (λ s u v g. walked_kept b (at + 1 + written a) s u typed.3 small.2 v g)
          mid.1)
          mid.2
      walked_kept (execute m rest) at rs z typed small h e =
          let s = stepped (call m rs) (walked scope call name (at + 1) rest) z e in
          walked_kept rest (at + 1) s.0 z typed.1 small (hc m rs s.0 h s.1) s.2

    pub calls_kept : (ms : List Routine) → All (λ m. IsTypedBody scope ms m.body) ms → All (λ m. AreSmallTerms m.body) ms → (n : ℕ) (m : List ℕ) (rs z : Ranges) → VariablesKept names P rs → range_calls_of scope ms n m rs ≡ Ok z → VariablesKept names P z
    unfolding range_calls_of
    calls_kept ms typed small zero m rs z h e = absurd (cc)
    calls_kept ms typed small (suc n) m rs z h e = by_body (body_named ms m) refl e (calls_kept ms typed small n)
      where
        by_body : (o : Option Body) → body_named ms m ≡ o → with_body m o (λ b. walked scope (range_calls_of scope ms n) m 0 b rs) ≡ Ok z → ((m : List ℕ) (rs z : Ranges) → VariablesKept names P rs → range_calls_of scope ms n m rs ≡ Ok z → VariablesKept names P z) → VariablesKept names P z
        by_body None f g hc = absurd (cc)
        by_body (Some b) f g hc = walked_kept ms (range_calls_of scope ms n) m hc b 0 rs z (found_method (IsTypedBody scope ms) ms typed m b f) (found_method AreSmallTerms ms small m b f) h g
