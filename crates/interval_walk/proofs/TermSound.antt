-- Where the walk of an expression passes, it is safe and its value lies in its range; and the same of a test.
use Rattle.std.proofs.Common.{◌≡◌, ℕ, ◌+◌, List, [], ◌∷◌, Bool, true, false, Option, Some, None, Result, Ok, Err, refl, subst}
use Rattle.std.specs.Bool.{OnTrue}
use Rattle.std.specs.Option.{option_map, option_or}
use Rattle.scaled_decimal.specs.Decimals.{Decimal, decimal, comparison}
use Rattle.scaled_decimal.specs.WholeNumbers.{whole_decimal}
use Rattle.pap_tree.specs.declared.expression.Unary.TheVariants.{Not}
use Rattle.pap_tree.specs.declared.expression.Binary.TheVariants.{And, Or}
use Rattle.pap_tree.specs.declared.expression.Call.TheVariants.{CompareTo}
use Rattle.pap_tree.specs.Grammar.{known_value}
use Rattle.pap_tree.specs.Term.{Leaf, whole, long, point, text, known, named, Term, leaf, item, one, two, choice, One, unary, Two, operator, method}
use Rattle.pap_tree.specs.Numbering.{nodes}
use Rattle.interval_num.specs.Intervals.{Interval, Contains, IsWhole}
use Rattle.interval_num.specs.Rows.{join_row}
use Rattle.pap_types.specs.declared.kinds.NodeKind.{NodeKind}
use Rattle.pap_types.specs.Scopes.{Scope, constant_in, table_in}
use Rattle.pap_types.specs.Kinds.{is_whole, is_int, kind_of, kind_of_one, int_literal, shown_divisor}
use Rattle.pap_types.specs.declared.kinds.NodeKind.TheVariants.{Int, Long, Big, Truth, Fraction, Factor, Table}
use Rattle.pap_types.specs.Values.{Env, look, leaf_value}
use Rattle.pap_types.specs.Operations.{of_one}
use Rattle.pap_types.specs.Safety.{OneFits}
use Rattle.pap_types.specs.Typing.{IsTypedTerm}
use Rattle.pap_tree.specs.Scales.{KeepsScales}
use Rattle.interval_walk.specs.Ranges.{Ranges, single, range_named}
use Rattle.interval_walk.specs.Failures.{NodeFault, and_then, at_node, nowhere}
use Rattle.interval_walk.specs.NodeRanges.{leaf_interval, leaf_range, item_range, one_range, two_range, comparison_range}
use Rattle.interval_walk.specs.Branches.{Branches, Sides, sides, sides_of, compared, opposite, reached, both_hold, one_holds, either_way}
use Rattle.interval_walk.specs.Ranged.{ranged, compare_sides, tested, are_whole}
use Rattle.interval_walk.specs.Soundness.{AreWithin, TermHolds, TestHolds}
use Rattle.interval_walk.specs.private.Soundness.{AreVariables}
use Rattle.interval_walk.proofs.RowShapes.{both_true, shape_bits}
use Rattle.interval_walk.proofs.NodeShapes.{stepped, passed_node, leaf_shape, ranged_shape}
use Rattle.interval_walk.proofs.ScopeLemmas.{IsSoundScope, shown_value}
use Rattle.interval_walk.proofs.EnvLemmas.{look_inside, look_none}
use Rattle.interval_walk.proofs.NodeSound.{single_inside, item_value, one_covers, two_covers}
use Rattle.interval_walk.proofs.BranchSound.{FoundWhole, SidesWhole}
use Rattle.interval_walk.proofs.TestSound.{two_safe, two_value, InnerHolds, compared_sound, not_sound, and_sound, or_sound, choice_sound}

-- ---- leaves

-- a defined value in a range
pub record HasValue (o : Option Decimal) (r : Interval) : Type 0 where
  pub gives : Decimal
  pub is : o ≡ Some gives
  pub inside : Contains r gives

single_value : (d : Decimal) (r : Interval) → ◌≡◌ {A = Option Interval} (Some (single d)) (Some r) → HasValue (Some d) r
single_value d r e = let same : single d ≡ r = cc in record { gives = d; is = refl; inside = subst (λ r. Contains r d) same (single_inside d) }

module _ (scope : Scope) (rs : Ranges) (env : Env) (w : AreWithin rs env) where
  name_value : (x : List ℕ) (r : Interval) (o : Option Interval) → range_named rs x ≡ o → option_or o (option_map single (constant_in scope x)) ≡ Some r → HasValue (option_or (look env x) (constant_in scope x)) r
  name_value x r (Some a) f e =
      let l = look_inside rs env x a w f in
      let same : a ≡ r = cc in
      record { gives = l.0; is = rw l.1 refl; inside = subst (λ r. Contains r l.0) same l.2 }
  name_value x r None f e = rw (look_none rs env x w f) (by_constant (constant_in scope x) e)
    where
      by_constant : (c : Option Decimal) → option_map single c ≡ Some r → HasValue c r
      by_constant (Some d) e = single_value d r e
      by_constant None e = absurd (cc)

  pub leaf_sound : (l : Leaf) (r : Interval) → leaf_interval scope l rs ≡ Some r → HasValue (leaf_value scope l env) r
  leaf_sound (whole i) r e = single_value (decimal i 0) r e
  leaf_sound (long i) r e = single_value (decimal i 0) r e
  leaf_sound (point d) r e = single_value d r e
  leaf_sound (text d) r e = single_value d r e
  leaf_sound (known k) r e = single_value (known_value k) r e
  leaf_sound (named x) r e = name_value x r (range_named rs x) refl e

-- ---- sides

on_whole : (t : Bool) (a : Interval) → (t ≡ true → IsWhole a) → OnTrue t (IsWhole a)
on_whole true a h = h refl
on_whole false a h = tt

module _ (scope : Scope) (rs : Ranges) where
  -- the variable that a term is has the term's range
  pub found_range : (t : Bool) (e : Term) (at : ℕ) (a : Interval) → ranged scope e at rs ≡ Ok a → OnTrue t (IsWhole a) → FoundWhole t e rs
  found_range t (leaf (named x)) at a e w = λ v f. (
      let l = (leaf_shape scope (named x) rs a (passed_node at _ (leaf_range scope (named x) rs) a e)).0 in
      let found : Some v ≡ Some a = subst (λ o. option_or o (option_map single (constant_in scope x)) ≡ Some a) f l in
      let same : a ≡ v = cc in
      subst (λ a. OnTrue t (IsWhole a)) same w)
  found_range t (leaf (whole i)) at a e w = tt
  found_range t (leaf (long i)) at a e w = tt
  found_range t (leaf (point i)) at a e w = tt
  found_range t (leaf (text i)) at a e w = tt
  found_range t (leaf (known i)) at a e w = tt
  found_range t (item x i) at a e w = tt
  found_range t (one op i) at a e w = tt
  found_range t (two op i j) at a e w = tt
  found_range t (choice c i j) at a e w = tt

  sides_whole : (e f : Term) (at : ℕ) (a b : Interval) → IsTypedTerm scope e → IsTypedTerm scope f → KeepsScales e → KeepsScales f → ranged scope e at rs ≡ Ok a → ranged scope f (at + nodes e) rs ≡ Ok b → SidesWhole (are_whole scope e f) (sides e f a b) rs
  sides_whole e f at a b te tf ke kf ra rb =
      let j = kind_of scope e in
      let k = kind_of scope f in
      let wa = on_whole (are_whole scope e f) a (λ t. (shape_bits j a (both_true (is_whole j) (is_whole k) t).0 (ranged_shape scope e at rs a te ke ra)).whole) in
      let wb = on_whole (are_whole scope e f) b (λ t. (shape_bits k b (both_true (is_whole j) (is_whole k) t).1 (ranged_shape scope f (at + nodes e) rs b tf kf rb)).whole) in
      record {
        left = found_range (are_whole scope e f) e at a ra wa;
        right = found_range (are_whole scope e f) f (at + nodes e) b rb wb;
        left_range = wa;
        right_range = wb;
      }

-- the ranges of sides that are there
record AreMade (e f : Term) (x y : Result Interval NodeFault) (s : Sides) : Type 0 where
  a : Interval
  b : Interval
  left : x ≡ Ok a
  right : y ≡ Ok b
  is : sides e f a b ≡ s

sides_made : (e f : Term) (x y : Result Interval NodeFault) (s : Sides) → sides_of e f x y ≡ Some s → AreMade e f x y s
sides_made e f (Ok a) (Ok b) s g = record { a = a; b = b; left = refl; right = refl; is = (let same : sides e f a b ≡ s = cc in same) }
sides_made e f (Ok a) (Err c) s g = absurd (cc)
sides_made e f (Err c) y s g = absurd (cc)

int_whole : (k : NodeKind) → is_int k ≡ true → is_whole k ≡ true
int_whole Int e = refl
int_whole Long e = absurd (cc)
int_whole Big e = absurd (cc)
int_whole Truth e = absurd (cc)
int_whole Fraction e = absurd (cc)
int_whole Factor e = absurd (cc)
int_whole Table e = absurd (cc)

-- ---- nodes of sound operands

module _ (scope : Scope) (ok : IsSoundScope scope) (env : Env) (only : AreVariables scope env) (rs : Ranges) (w : AreWithin rs env) where
  item_sound : (x : List ℕ) (e : Term) (at : ℕ) (a r : Interval) → IsTypedTerm scope (item x e) → KeepsScales e → ranged scope e at rs ≡ Ok a → TermHolds scope e env a → item_range (table_in scope x) a ≡ Ok r → TermHolds scope (item x e) env r
  item_sound x e at a r typed keeps ra h g =
      let shape = ranged_shape scope e at rs a typed.0 keeps ra in
      let whole_index = (shape_bits (kind_of scope e) a (int_whole (kind_of scope e) typed.1.index) shape).whole in
      let v = item_value (table_in scope x) a r h.gives whole_index h.inside g in
      record { safe = h.safe; gives = v.0; is = rw h.is v.1; inside = v.2 }

  one_sound : (op : One) (e : Term) (at : ℕ) (a r : Interval) → IsTypedTerm scope (one op e) → KeepsScales (one op e) → ranged scope e at rs ≡ Ok a → TermHolds scope e env a → one_range op (kind_of scope (one op e)) e a ≡ Ok r → TermHolds scope (one op e) env r
  one_sound op e at a r typed keeps ra h g =
      let k = kind_of scope e in
      let c = one_covers op k e a r h.gives typed.1 keeps.0 (ranged_shape scope e at rs a typed.0 keeps.1 ra) h.inside g in
      record {
        safe = (h.safe, λ x p. (let v = h.is in let same : h.gives ≡ x = cc in subst (λ x. OneFits op (kind_of_one op k) x) same c.fits));
        gives = of_one op e h.gives;
        is = rw h.is refl;
        inside = c.inside;
      }

  two_sound : (op : Two) (e f : Term) (at : ℕ) (a b r : Interval) → IsTypedTerm scope (two op e f) → KeepsScales (two op e f) → ranged scope e at rs ≡ Ok a → ranged scope f (at + nodes e) rs ≡ Ok b → TermHolds scope e env a → TermHolds scope f env b → two_range scope op (kind_of scope (two op e f)) f a b ≡ Ok r → TermHolds scope (two op e f) env r
  two_sound op e f at a b r typed keeps ra rb he hf g =
      let j = kind_of scope e in
      let k = kind_of scope f in
      let x = he.gives in
      let y = hf.gives in
      let shown = λ (d : Decimal) (p : shown_divisor scope f ≡ Some d). the_value d p in
      let c = two_covers scope e f j k a b r x y (ranged_shape scope e at rs a typed.0 keeps.1 ra) (ranged_shape scope f (at + nodes e) rs b typed.1 keeps.2 rb) he.inside hf.inside op typed.2 keeps.0 shown g in
      record {
        safe = two_safe scope op e f env x y he.safe he.is hf.safe hf.is c.fits;
        gives = c.gives;
        is = two_value scope op e f env x y c.gives he.is hf.is c.goes c.is;
        inside = c.inside;
      }
    where
      the_value : (d : Decimal) → shown_divisor scope f ≡ Some d → hf.gives ≡ d
      the_value d p = let v = shown_value scope ok env only f d p in let i = hf.is in cc

-- ---- the whole

module _ (scope : Scope) (ok : IsSoundScope scope) (env : Env) (only : AreVariables scope env) where
  mutual
    pub term_sound : (t : Term) (at : ℕ) (rs : Ranges) (r : Interval) → AreWithin rs env → IsTypedTerm scope t → KeepsScales t → ranged scope t at rs ≡ Ok r → TermHolds scope t env r
    term_sound (leaf l) at rs r w typed keeps e =
        let v = leaf_sound scope rs env w l r (leaf_shape scope l rs r (passed_node at _ (leaf_range scope l rs) r e)).0 in
        record { safe = tt; gives = v.gives; is = v.is; inside = v.inside }
    term_sound (item x i) at rs r w typed keeps e =
        let a = stepped (ranged scope i at rs) (λ a. at_node (at + nodes i) (a ∷ []) (item_range (table_in scope x) a)) r e in
        item_sound scope ok env only rs w x i at a.0 r typed keeps a.1 (term_sound i at rs a.0 w typed.0 keeps a.1) (passed_node (at + nodes i) _ (item_range (table_in scope x) a.0) r a.2)
    term_sound (one op t) at rs r w typed keeps e =
        let k = kind_of scope (one op t) in
        let a = stepped (ranged scope t at rs) (λ a. at_node (at + nodes t) (a ∷ []) (one_range op k t a)) r e in
        one_sound scope ok env only rs w op t at a.0 r typed keeps a.1 (term_sound t at rs a.0 w typed.0 keeps.1 a.1) (passed_node (at + nodes t) _ (one_range op k t a.0) r a.2)
    term_sound (two op s t) at rs r w typed keeps e =
        let k = kind_of scope (two op s t) in
        let node = at + nodes s + nodes t in
        let a = stepped (ranged scope s at rs) (λ a. and_then (ranged scope t (at + nodes s) rs) (λ b. at_node node (a ∷ b ∷ []) (two_range scope op k t a b))) r e in
        let b = stepped (ranged scope t (at + nodes s) rs) (λ b. at_node node (a.0 ∷ b ∷ []) (two_range scope op k t a.0 b)) r a.2 in
        two_sound scope ok env only rs w op s t at a.0 b.0 r typed keeps a.1 b.1
        (term_sound s at rs a.0 w typed.0 keeps.1 a.1)
        (term_sound t (at + nodes s) rs b.0 w typed.1 keeps.2 b.1)
        (passed_node node _ (two_range scope op k t a.0 b.0) r b.2)
    term_sound (choice c s t) at rs r w typed keeps e =
        let node = at + nodes c + nodes s + nodes t in
        let first = ranged scope s (at + nodes c) in
        let second = ranged scope t (at + nodes c + nodes s) in
        let br = stepped (tested scope c at rs) (λ br. either_way (nowhere node) first second (λ a b. at_node node (a ∷ b ∷ []) (join_row a b)) br.holds br.fails) r e in
        choice_sound scope c s t env br.0 r (test_sound c at rs br.0 w typed.0 keeps.0 br.1) (nowhere node) node first second
        (λ rs a v f. term_sound s (at + nodes c) rs a v typed.1 keeps.1 f)
        (λ rs b v f. term_sound t (at + nodes c + nodes s) rs b v typed.2 keeps.2 f)
        br.2

    sides_sound : (t : Term) (at : ℕ) (rs : Ranges) (s : Sides) → AreWithin rs env → IsTypedTerm scope t → KeepsScales t → compare_sides scope t at rs ≡ Some s → InnerHolds scope t env s
    sides_sound (two (method CompareTo) e f) at rs s w typed keeps g =
        let m = sides_made e f (ranged scope e at rs) (ranged scope f (at + nodes e) rs) s g in
        let he = term_sound e at rs m.a w typed.0 keeps.1 m.left in
        let hf = term_sound f (at + nodes e) rs m.b w typed.1 keeps.2 m.right in
        subst (InnerHolds scope (two (method CompareTo) e f) env) m.is (record {
          x = he.gives;
          y = hf.gives;
          sides = record { left = he.is; right = hf.is; left_inside = he.inside; right_inside = hf.inside };
          compares = two_value scope (method CompareTo) e f env he.gives hf.gives (whole_decimal (comparison he.gives hf.gives)) he.is hf.is refl refl;
        })
    sides_sound _ at rs s w typed keeps g = absurd (cc)

    pub test_sound : (t : Term) (at : ℕ) (rs : Ranges) (br : Branches) → AreWithin rs env → IsTypedTerm scope t → KeepsScales t → tested scope t at rs ≡ Ok br → TestHolds scope t env br
    test_sound (one (unary Not) t) at rs br w typed keeps e =
        let s = stepped (tested scope t at rs) (λ b. Ok (opposite b)) br e in
        let same : opposite s.0 ≡ br = let f = s.2 in cc in
        subst (TestHolds scope (one (unary Not) t) env) same (not_sound scope t env s.0 (test_sound t at rs s.0 w typed.0 keeps.1 s.1))
    test_sound (two (operator And) s t) at rs br w typed keeps e =
        let go = tested scope t (at + nodes s) in
        let l = stepped (tested scope s at rs) (λ l. and_then (reached l.holds go) (λ r. Ok (both_hold rs l r))) br e in
        let r = stepped (reached l.0.holds go) (λ r. Ok (both_hold rs l.0 r)) br l.2 in
        let same : both_hold rs l.0 r.0 ≡ br = let f = r.2 in cc in
        subst (TestHolds scope (two (operator And) s t) env) same
        (and_sound scope s t rs env l.0 r.0 w (test_sound s at rs l.0 w typed.0 keeps.1 l.1) go (λ rs v f. test_sound t (at + nodes s) rs r.0 v typed.1 keeps.2 f) r.1)
    test_sound (two (operator Or) s t) at rs br w typed keeps e =
        let go = tested scope t (at + nodes s) in
        let l = stepped (tested scope s at rs) (λ l. and_then (reached l.fails go) (λ r. Ok (one_holds rs l r))) br e in
        let r = stepped (reached l.0.fails go) (λ r. Ok (one_holds rs l.0 r)) br l.2 in
        let same : one_holds rs l.0 r.0 ≡ br = let f = r.2 in cc in
        subst (TestHolds scope (two (operator Or) s t) env) same
        (or_sound scope s t rs env l.0 r.0 w (test_sound s at rs l.0 w typed.0 keeps.1 l.1) go (λ rs v f. test_sound t (at + nodes s) rs r.0 v typed.1 keeps.2 f) r.1)
    test_sound (two (operator op) s t) at rs br w typed keeps e =
        let node = at + nodes s + nodes t in
        let answer = λ (a b : Interval). compared op (are_whole scope s t) (sides s t a b) (compare_sides scope s at rs) (int_literal t) rs in
        let a = stepped (ranged scope s at rs) (λ a. and_then (ranged scope t (at + nodes s) rs) (λ b. and_then (at_node node (a ∷ b ∷ []) (comparison_range op a b)) (λ r. Ok (answer a b)))) br e in
        let b = stepped (ranged scope t (at + nodes s) rs) (λ b. and_then (at_node node (a.0 ∷ b ∷ []) (comparison_range op a.0 b)) (λ r. Ok (answer a.0 b))) br a.2 in
        let r = stepped (at_node node (a.0 ∷ b.0 ∷ []) (comparison_range op a.0 b.0)) (λ r. Ok (answer a.0 b.0)) br b.2 in
        let same : answer a.0 b.0 ≡ br = let f = r.2 in cc in
        subst (TestHolds scope (two (operator op) s t) env) same
        (compared_sound scope op s t rs env a.0 b.0 r.0 w
        (term_sound s at rs a.0 w typed.0 keeps.1 a.1)
        (term_sound t (at + nodes s) rs b.0 w typed.1 keeps.2 b.1)
        (passed_node node _ (comparison_range op a.0 b.0) r.0 r.1)
        (compare_sides scope s at rs)
        (λ x f. sides_sound s at rs x w typed.0 keeps.1 f)
        (sides_whole scope rs s t at a.0 b.0 typed.0 typed.1 keeps.1 keeps.2 a.1 b.1))
    test_sound _ at rs br w typed keeps e = absurd (cc)
