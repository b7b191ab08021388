-- The walk keeps the names of the variables and their order.
use Rattle.std.proofs.Common.{◌≡◌, ℕ, zero, suc, ◌+◌, List, [], ◌∷◌, Bool, true, false, ◌||◌, if◌then◌else◌, Option, Some, None, Result, Ok, Err, refl, sym, ap, ◌∙◌, subst}
use Rattle.std.specs.Prelude.{is_some}
use Rattle.std.specs.Option.{option_map, option_and_then}
use Rattle.std.specs.Str.{bytes_eq}
use Rattle.std.proofs.lemmas.Slice.Eq.{bytes_eq-Decides}
use Rattle.scaled_decimal.specs.Decimals.{Decimal}
use Rattle.pap_tree.specs.declared.expression.Unary.TheVariants.{Not}
use Rattle.pap_tree.specs.declared.expression.Binary.{Binary}
use Rattle.pap_tree.specs.declared.expression.Binary.TheVariants.{And, Or}
use Rattle.pap_tree.specs.Term.{whole, long, point, text, known, named, Term, leaf, item, one, two, choice, unary, operator}
use Rattle.pap_tree.specs.Numbering.{nodes}
use Rattle.pap_tree.specs.Flowchart.{Body, done, eval, branch, execute, Routine}
use Rattle.pap_tree.specs.Statements.{written}
use Rattle.interval_num.specs.declared.cause.RangeCause.{RangeCause}
use Rattle.interval_num.specs.declared.cause.RangeCause.TheVariants.{Wide}
use Rattle.interval_num.specs.declared.sign_set.SignSet.{SignSet}
use Rattle.interval_num.specs.Intervals.{Interval}
use Rattle.interval_num.specs.Rows.{join_row}
use Rattle.interval_num.specs.Signs.{signs_of}
use Rattle.interval_num.specs.Refinement.{refined}
use Rattle.pap_tree.specs.Declarations.{Declaration}
use Rattle.pap_types.specs.Scopes.{Scope, declared_as, names_of}
use Rattle.pap_types.specs.Kinds.{int_literal}
use Rattle.pap_types.specs.Routines.{body_named}
use Rattle.pap_types.specs.Checks.{place, last_node}
use Rattle.interval_walk.specs.Ranges.{Ranges, names_in, range_named, put_range}
use Rattle.interval_walk.specs.Failures.{NodeFault, WalkFault, node_fails, and_then, at_node, at_stmt}
use Rattle.interval_walk.specs.NodeRanges.{comparison_range}
use Rattle.interval_walk.specs.Branches.{Branches, Sides, sides, narrowed_name, narrowed, can_have, exchanged, others, branch_of, branches_of, compared, opposite, no_branch, reached, before, both_hold, one_holds, either_way}
use Rattle.interval_walk.specs.Ranged.{ranged, compare_sides, tested, are_whole}
use Rattle.interval_walk.specs.Walked.{assigned_range, joined, RangeCalls, walked, with_body, range_calls_of}
use Rattle.interval_walk.proofs.NodeShapes.{stepped}

-- ---- names in ranges of the variables

turned : (a b : List ℕ) → bytes_eq a b ≡ bytes_eq b a
turned a b = by_test (bytes_eq a b) (bytes_eq b a) refl refl
  where
    by_test : (t u : Bool) → bytes_eq a b ≡ t → bytes_eq b a ≡ u → t ≡ u
    by_test true true e f = refl
    by_test false false e f = refl
    by_test true false e f = let k : bytes_eq b a ≡ true = (bytes_eq-Decides b a).1 (sym ((bytes_eq-Decides a b).0 e)) in sym e ∙ e ∙ sym k ∙ f
    by_test false true e f = let k : bytes_eq a b ≡ true = (bytes_eq-Decides a b).1 (sym ((bytes_eq-Decides b a).0 f)) in sym e ∙ k

-- what stands at a name: a range where it is a variable, and none where it isn't
pub at_name : (rs : Ranges) (vs : List Declaration) (x : List ℕ) → names_in rs ≡ names_of vs → is_some (range_named rs x) ≡ is_some (declared_as vs x)
at_name [] [] x e = refl
at_name [] (v ∷ vs) x e = absurd (cc)
at_name (r ∷ rs) [] x e = absurd (cc)
at_name (r ∷ rs) (v ∷ vs) x e =
    let first : r.name ≡ v.name = cc in
    let rest : names_in rs ≡ names_of vs = cc in
    let same : bytes_eq r.name x ≡ bytes_eq x v.name = ap (λ n. bytes_eq n x) first ∙ turned v.name x in
    by_test (bytes_eq r.name x) (bytes_eq x v.name) same (at_name rs vs x rest)
  where
    by_test : (t u : Bool) → t ≡ u → is_some (range_named rs x) ≡ is_some (declared_as vs x) → is_some (if t then Some r.range else range_named rs x) ≡ is_some (if u then Some v else declared_as vs x)
    by_test true true f later = refl
    by_test false false f later = later
    by_test true false f later = absurd (cc)
    by_test false true f later = absurd (cc)

-- what has no range has none where others stand under the same names
pub no_range : (rs ss : Ranges) (x : List ℕ) → names_in rs ≡ names_in ss → range_named ss x ≡ None → range_named rs x ≡ None
no_range [] ss x n e = refl
no_range (r ∷ rs) [] x n e = absurd (cc)
no_range (r ∷ rs) (s ∷ ss) x n e =
    let first : r.name ≡ s.name = cc in
    let rest : names_in rs ≡ names_in ss = cc in
    by_test (bytes_eq r.name x) (bytes_eq s.name x) (ap (λ n. bytes_eq n x) first) e (no_range rs ss x rest)
  where
    by_test : (t u : Bool) → t ≡ u → (if u then Some s.range else range_named ss x) ≡ None → (range_named ss x ≡ None → range_named rs x ≡ None) → (if t then Some r.range else range_named rs x) ≡ None
    by_test t true f g later = absurd (cc)
    by_test true false f g later = absurd (cc)
    by_test false false f g later = later g

-- nor has what isn't declared among the variables
pub undeclared : (rs : Ranges) (vs : List Declaration) (x : List ℕ) → names_in rs ≡ names_of vs → declared_as vs x ≡ None → range_named rs x ≡ None
undeclared rs vs x n e = by_range (range_named rs x) (at_name rs vs x n ∙ ap is_some e)
  where
    by_range : (o : Option Interval) → is_some o ≡ false → o ≡ None
    by_range None f = refl
    by_range (Some a) f = absurd (cc)

-- ---- refinement

pub put_names : (rs : Ranges) (x : List ℕ) (a : Interval) → names_in (put_range rs x a) ≡ names_in rs
put_names [] x a = refl
put_names (r ∷ rs) x a = by_test (bytes_eq r.name x) (put_names rs x a)
  where
    by_test : (t : Bool) → names_in (put_range rs x a) ≡ names_in rs → names_in (if t then record r { range = a } ∷ rs else r ∷ put_range rs x a) ≡ names_in (r ∷ rs)
    by_test true later = refl
    by_test false later = ap (λ ns. r.name ∷ ns) later

-- ranges that are reached have the names of those that they come from
abbrev pub StayNamed : Ranges → Option Ranges → Type 0
StayNamed rs o = (s : Ranges) → o ≡ Some s → names_in s ≡ names_in rs

same_named : (rs : Ranges) → StayNamed rs (Some rs)
same_named rs s e = let same : rs ≡ s = cc in ap names_in (sym same)

none_named : (rs : Ranges) → StayNamed rs None
none_named rs s e = absurd (cc)

module _ (t : Bool) (allowed : SignSet) (e : Interval) (rs : Ranges) where
  name_named : (x : List ℕ) (o : Option Interval) → StayNamed rs (narrowed_name t allowed x e rs o)
  name_named x None = same_named rs
  name_named x (Some v) = by_part (refined v e allowed t)
    where
      by_part : (o : Option Interval) → StayNamed rs (option_map (put_range rs x) o)
      by_part None s g = none_named rs s g
      by_part (Some a) s g = let same : put_range rs x a ≡ s = cc in ap names_in (sym same) ∙ put_names rs x a

  narrowed_named : (u : Term) → StayNamed rs (narrowed t allowed u e rs)
  narrowed_named (leaf (named x)) = name_named x (range_named rs x)
  narrowed_named (leaf (whole i)) = same_named rs
  narrowed_named (leaf (long i)) = same_named rs
  narrowed_named (leaf (point i)) = same_named rs
  narrowed_named (leaf (text i)) = same_named rs
  narrowed_named (leaf (known i)) = same_named rs
  narrowed_named (item x i) = same_named rs
  narrowed_named (one op i) = same_named rs
  narrowed_named (two op i j) = same_named rs
  narrowed_named (choice c i j) = same_named rs

branch_named : (t : Bool) (allowed : SignSet) (s : Sides) (rs : Ranges) → StayNamed rs (branch_of t allowed s rs)
branch_named t allowed s rs = by_can (can_have allowed (signs_of s.left_range s.right_range))
  where
    by_left : (o : Option Ranges) → StayNamed rs o → StayNamed rs (option_and_then (narrowed t (exchanged allowed) s.right s.left_range) o)
    by_left None h u g = none_named rs u g
    by_left (Some r) h u g = narrowed_named t (exchanged allowed) s.left_range r s.right u g ∙ h r refl

    by_can : (b : Bool) → StayNamed rs (if b then option_and_then (narrowed t (exchanged allowed) s.right s.left_range) (narrowed t allowed s.left s.right_range rs) else None)
    by_can true = by_left (narrowed t allowed s.left s.right_range rs) (narrowed_named t allowed s.right_range rs s.left)
    by_can false = none_named rs

pub record BranchesNamed (rs : Ranges) (br : Branches) : Type 0 where
  pub holds : StayNamed rs br.holds
  pub fails : StayNamed rs br.fails

branches_named : (t : Bool) (allowed : SignSet) (s : Sides) (rs : Ranges) → BranchesNamed rs (branches_of t allowed s rs)
branches_named t allowed s rs = record { holds = branch_named t allowed s rs; fails = branch_named t (others allowed) s rs }

compared_named : (op : Binary) (t : Bool) (direct : Sides) (i : Option Sides) (k : Option Decimal) (rs : Ranges) → BranchesNamed rs (compared op t direct i k rs)
compared_named op t direct (Some s) (Some k) rs = branches_named false _ s rs
compared_named op t direct (Some s) None rs = branches_named t _ direct rs
compared_named op t direct None k rs = branches_named t _ direct rs

before_named : (rs : Ranges) (o p : Option Ranges) → StayNamed rs (before rs o p)
before_named rs o p = by_test (is_some o || is_some p)
  where
    by_test : (t : Bool) → StayNamed rs (if t then Some rs else None)
    by_test true = same_named rs
    by_test false = none_named rs

-- the branches of a right operand have the names of the ranges that it is walked in
reached_named : (rs : Ranges) (o : Option Ranges) (go : Ranges → Result Branches NodeFault) (r : Branches) → StayNamed rs o → ((s : Ranges) → go s ≡ Ok r → BranchesNamed s r) → reached o go ≡ Ok r → BranchesNamed rs r
reached_named rs None go r h later e = let same : no_branch ≡ r = cc in subst (BranchesNamed rs) same (record { holds = none_named rs; fails = none_named rs })
reached_named rs (Some s) go r h later e =
    let k = later s e in
    let n = h s refl in
    record { holds = λ u g. k.holds u g ∙ n; fails = λ u g. k.fails u g ∙ n }

module _ (scope : Scope) where
  pub tested_named : (t : Term) (at : ℕ) (rs : Ranges) (br : Branches) → tested scope t at rs ≡ Ok br → BranchesNamed rs br
  tested_named (one (unary Not) t) at rs br e =
      let s = stepped (tested scope t at rs) (λ b. Ok (opposite b)) br e in
      let same : opposite s.0 ≡ br = let f = s.2 in cc in
      let h = tested_named t at rs s.0 s.1 in
      subst (BranchesNamed rs) same (record { holds = h.fails; fails = h.holds })
  tested_named (two (operator And) s t) at rs br e =
      let go = tested scope t (at + nodes s) in
      let l = stepped (tested scope s at rs) (λ l. and_then (reached l.holds go) (λ r. Ok (both_hold rs l r))) br e in
      let r = stepped (reached l.0.holds go) (λ r. Ok (both_hold rs l.0 r)) br l.2 in
      let same : both_hold rs l.0 r.0 ≡ br = let f = r.2 in cc in
      let h = tested_named s at rs l.0 l.1 in
      let k = reached_named rs l.0.holds go r.0 h.holds (λ u g. tested_named t (at + nodes s) u r.0 g) r.1 in
      subst (BranchesNamed rs) same (record { holds = k.holds; fails = before_named rs l.0.fails r.0.fails })
  tested_named (two (operator Or) s t) at rs br e =
      let go = tested scope t (at + nodes s) in
      let l = stepped (tested scope s at rs) (λ l. and_then (reached l.fails go) (λ r. Ok (one_holds rs l r))) br e in
      let r = stepped (reached l.0.fails go) (λ r. Ok (one_holds rs l.0 r)) br l.2 in
      let same : one_holds rs l.0 r.0 ≡ br = let f = r.2 in cc in
      let h = tested_named s at rs l.0 l.1 in
      let k = reached_named rs l.0.fails go r.0 h.fails (λ u g. tested_named t (at + nodes s) u r.0 g) r.1 in
      subst (BranchesNamed rs) same (record { holds = before_named rs l.0.holds r.0.holds; fails = k.fails })
  tested_named (two (operator op) s t) at rs br e =
      let node = at + nodes s + nodes t in
      let answer = λ (a b : Interval). compared op (are_whole scope s t) (sides s t a b) (compare_sides scope s at rs) (int_literal t) rs in
      let a = stepped (ranged scope s at rs) (λ a. and_then (ranged scope t (at + nodes s) rs) (λ b. and_then (at_node node (a ∷ b ∷ []) (comparison_range op a b)) (λ r. Ok (answer a b)))) br e in
      let b = stepped (ranged scope t (at + nodes s) rs) (λ b. and_then (at_node node (a.0 ∷ b ∷ []) (comparison_range op a.0 b)) (λ r. Ok (answer a.0 b))) br a.2 in
      let r = stepped (at_node node (a.0 ∷ b.0 ∷ []) (comparison_range op a.0 b.0)) (λ r. Ok (answer a.0 b.0)) br b.2 in
      let same : answer a.0 b.0 ≡ br = let f = r.2 in cc in
      subst (BranchesNamed rs) same (compared_named op (are_whole scope s t) (sides s t a.0 b.0) (compare_sides scope s at rs) (int_literal t) rs)
  tested_named _ at rs br e = absurd (cc)

-- ---- statements

pub joined_named : (rs ss zs : Ranges) → joined rs ss ≡ Ok zs → names_in zs ≡ names_in rs
joined_named [] [] zs e = let same : [] ≡ zs = cc in ap names_in (sym same)
joined_named [] (s ∷ ss) zs e = absurd (cc)
joined_named (r ∷ rs) [] zs e = absurd (cc)
joined_named (r ∷ rs) (s ∷ ss) zs e =
    let a = stepped (join_row r.range s.range) (λ a. and_then (joined rs ss) (λ o. Ok (record r { range = a } ∷ o))) zs e in
    let o = stepped (joined rs ss) (λ o. Ok (record r { range = a.0 } ∷ o)) zs a.2 in
    let same : record r { range = a.0 } ∷ o.0 ≡ zs = let f = o.2 in cc in
    ap names_in (sym same) ∙ ap (λ ns. r.name ∷ ns) (joined_named rs ss o.0 o.1)

pub passed_stmt : {A : Type 0} (name : List ℕ) (at : ℕ) (r : Result A NodeFault) (a : A) → at_stmt name at r ≡ Ok a → r ≡ Ok a
passed_stmt name at (Ok x) a e = let same : x ≡ a = cc in ap Ok same
passed_stmt name at (Err f) a e = absurd (cc)

pub passed_join : (at : ℕ) (r : Result Ranges RangeCause) (a : Ranges) → at_node at [] r ≡ Ok a → r ≡ Ok a
passed_join at (Ok x) a e = let same : x ≡ a = cc in ap Ok same
passed_join at (Err c) a e = absurd (cc)

-- both branches, up to where they meet
module _ (name : List ℕ) (at node : ℕ) where
  abbrev pub meet : Ranges → Ranges → Result Ranges WalkFault
  meet x y = at_stmt name at (at_node node [] (joined x y))

  pub met : (x y z : Ranges) → meet x y ≡ Ok z → joined x y ≡ Ok z
  met x y z e = passed_join node (joined x y) z (passed_stmt name at (at_node node [] (joined x y)) z e)

  either_named : (none : WalkFault) (first second : Ranges → Result Ranges WalkFault) (rs z : Ranges) (o p : Option Ranges) → StayNamed rs o → StayNamed rs p → ((s u : Ranges) → first s ≡ Ok u → names_in u ≡ names_in s) → ((s u : Ranges) → second s ≡ Ok u → names_in u ≡ names_in s) → either_way none first second meet o p ≡ Ok z → names_in z ≡ names_in rs
  either_named none first second rs z None None ho hp hf hs e = absurd (cc)
  either_named none first second rs z (Some s) None ho hp hf hs e = hf s z e ∙ ho s refl
  either_named none first second rs z None (Some s) ho hp hf hs e = hs s z e ∙ hp s refl
  either_named none first second rs z (Some s) (Some t) ho hp hf hs e =
      let x = stepped (first s) (λ x. and_then (second t) (λ y. meet x y)) z e in
      let y = stepped (second t) (λ y. meet x.0 y) z x.2 in
      joined_named x.0 y.0 z (met x.0 y.0 z y.2) ∙ hf s x.0 x.1 ∙ ho s refl

-- a method keeps the names
abbrev pub CallsStayNamed : RangeCalls → Type 0
CallsStayNamed call = (m : List ℕ) (rs z : Ranges) → call m rs ≡ Ok z → names_in z ≡ names_in rs

module _ (scope : Scope) (call : RangeCalls) (name : List ℕ) (hc : CallsStayNamed call) where
  pub walked_named : (b : Body) (at : ℕ) (rs z : Ranges) → walked scope call name at b rs ≡ Ok z → names_in z ≡ names_in rs
  walked_named done at rs z e = let same : rs ≡ z = cc in ap names_in (sym same)
  walked_named (eval x t rest) at rs z e =
      let a = stepped (at_stmt name at (ranged scope t 0 rs)) (λ a. walked scope call name (at + 1) rest (assigned_range scope x a rs)) z e in
      walked_named rest (at + 1) (assigned_range scope x a.0 rs) z a.2 ∙ put_names rs x _
  walked_named (branch t a b rest) at rs z e =
      let none = node_fails (place name at (last_node t)) Wide [] in
      let first = walked scope call name (at + 1) a in
      let second = walked scope call name (at + 1 + written a) b in
      let after = walked scope call name (at + 1 + written a + written b) rest in
      let br = stepped (at_stmt name at (tested scope t 0 rs)) (λ br. and_then (either_way none first second (meet name at (last_node t)) br.holds br.fails) after) z e in
      let mid = stepped (either_way none first second (meet name at (last_node t)) br.0.holds br.0.fails) after z br.2 in
      let n = tested_named scope t 0 rs br.0 (passed_stmt name at (tested scope t 0 rs) br.0 br.1) in
      walked_named rest (at + 1 + written a + written b) mid.0 z mid.2
      ∙ either_named name at (last_node t) none first second rs mid.0 br.0.holds br.0.fails n.holds n.fails
      (λ s u g. walked_named a (at + 1) s u g)
      (λ s u g. walked_named b (at + 1 + written a) s u g)
      mid.1
  walked_named (execute m rest) at rs z e =
      let s = stepped (call m rs) (walked scope call name (at + 1) rest) z e in
      walked_named rest (at + 1) s.0 z s.2 ∙ hc m rs s.0 s.1

pub calls_named : (scope : Scope) (ms : List Routine) (n : ℕ) → CallsStayNamed (range_calls_of scope ms n)
unfolding range_calls_of
calls_named scope ms zero m rs z e = absurd (cc)
calls_named scope ms (suc n) m rs z e = by_body (body_named ms m) e (calls_named scope ms n)
  where
    by_body : (o : Option Body) → with_body m o (λ b. walked scope (range_calls_of scope ms n) m 0 b rs) ≡ Ok z → CallsStayNamed (range_calls_of scope ms n) → names_in z ≡ names_in rs
    by_body None g hc = absurd (cc)
    by_body (Some b) g hc = walked_named scope (range_calls_of scope ms n) m hc b 0 rs z g
