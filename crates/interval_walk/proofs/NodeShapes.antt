-- The range of an expression of a typed plan has the shape of its kind, whatever the ranges of the variables.
use Rattle.std.proofs.Common.{◌≡◌, ℕ, ◌+◌, ◌≤◌, ℤ, neg_ℤ, List, [], ◌∷◌, true, Option, Some, None, Result, Ok, Err, refl, sym, ap, subst, arith}
use Rattle.std.specs.Prelude.{⊤}
use Rattle.scaled_decimal.specs.Decimals.{Decimal, scale_of, numerator_of}
use Rattle.scaled_decimal.specs.Limits.{most_places}
use Rattle.scaled_decimal.specs.WholeNumbers.{whole_sum, whole_difference, whole_product, whole_quotient}
use Rattle.scaled_decimal.proofs.Laws.{shortened_is}
use Rattle.pap_tree.specs.declared.expression.Unary.TheVariants.{Minus, Not, Negate, Abs}
use Rattle.pap_tree.specs.declared.expression.Binary.{Binary}
use Rattle.pap_tree.specs.declared.expression.Binary.TheVariants as binaries
use Rattle.pap_tree.specs.declared.expression.Call.{Call}
use Rattle.pap_tree.specs.declared.expression.Call.TheVariants as calls
use Rattle.pap_tree.specs.Term.{Leaf, point, Term, leaf, item, one, two, choice, One, unary, value_of, value_of_scaled, new_big, set_scale, Two, operator, method, divide}
use Rattle.pap_tree.specs.Numbering.{nodes}
use Rattle.interval_num.specs.declared.cause.RangeCause.{RangeCause}
use Rattle.interval_num.specs.declared.cause.RangeCause.TheVariants.{Divisor}
use Rattle.interval_num.specs.Intervals.{Interval, IsWholeOfBits}
use Rattle.interval_num.specs.Alignment.{has_zero}
use Rattle.interval_num.specs.Rows.{item_row, join_row, whole_row}
use Rattle.pap_types.specs.declared.kinds.NodeKind.{NodeKind}
use Rattle.pap_types.specs.declared.kinds.NodeKind.TheVariants.{Big}
use Rattle.pap_types.specs.Scopes.{Scope, table_in}
use Rattle.pap_types.specs.Kinds.{is_whole, kind_of, leaf_kind, kind_of_one, kind_of_two, takes_one, takes_two, wider, are_parts, shown_divisor}
use Rattle.pap_types.specs.Operations.{fewest_places}
use Rattle.pap_types.specs.Safety.{bits_of}
use Rattle.pap_types.specs.Typing.{IsTypedTerm}
use Rattle.pap_tree.specs.Scales.{OneKeepsScale, TwoKeepsScale, KeepsScales}
use Rattle.interval_walk.specs.Ranges.{Ranges, single}
use Rattle.interval_walk.specs.Failures.{NodeFault, and_then, at_node, nowhere}
use Rattle.interval_walk.specs.NodeRanges.{read_leaf, leaf_range, leaf_interval, item_range, shown_range, one_range, operator_range, method_range, two_range, big_range}
use Rattle.interval_walk.specs.Branches.{either_way}
use Rattle.interval_walk.specs.Ranged.{ranged, tested}
use Rattle.interval_walk.specs.Shapes.{HasShape}
use Rattle.interval_walk.proofs.RowShapes.{both_true, bits_shape, big_shape, wider_left, read_shape, read_item_shape, hull_shape, remainder_shape, sum_places, difference_places, min_places, max_places, comparison_shape, product_shape, quotient_shape, exact_quotient_shape, rescaled_shape, first_shape, second_shape, join_shape, unless_ok, ok_is}

-- ---- what goes on

-- a step that went on
pub stepped : {A B E : Type 0} (r : Result A E) (go : A → Result B E) (b : B) → and_then r go ≡ Ok b → (a : A) × (r ≡ Ok a) × (go a ≡ Ok b)
stepped (Ok a) go b e = (a, refl, e)
stepped (Err f) go b e = absurd (cc)

pub passed_node : {A : Type 0} (at : ℕ) (operands : List Interval) (r : Result A RangeCause) (a : A) → at_node at operands r ≡ Ok a → r ≡ Ok a
passed_node at _ (Ok x) a e = let same : x ≡ a = cc in ap Ok same
passed_node at _ (Err c) a e = absurd (cc)

-- ---- leaves

read_leaf_shape : (k : NodeKind) (o : Option Interval) (r : Interval) → read_leaf k o ≡ Ok r → (o ≡ Some r) × HasShape k r
read_leaf_shape k (Some a) r e = let h = read_shape k a r e in (ap Some h.same, subst (HasShape k) h.same h.shape)
read_leaf_shape k None r e = absurd (cc)

pub leaf_shape : (scope : Scope) (l : Leaf) (env : Ranges) (r : Interval) → leaf_range scope l env ≡ Ok r → (leaf_interval scope l env ≡ Some r) × HasShape (leaf_kind scope l) r
leaf_shape scope l env r e = read_leaf_shape (leaf_kind scope l) (leaf_interval scope l env) r e

-- ---- one operand

-- a literal with a point has its single range
abbrev pub IsPointOf : Term → Interval → Type 0
IsPointOf (leaf (point d)) a = a ≡ single d
IsPointOf _ a = ⊤

pub point_of : (scope : Scope) (e : Term) (at : ℕ) (env : Ranges) (a : Interval) → ranged scope e at env ≡ Ok a → IsPointOf e a
point_of scope (leaf (point d)) at env a h =
    let e = (leaf_shape scope (point d) env a (passed_node at _ (leaf_range scope (point d) env) a h)).0 in
    let same : single d ≡ a = cc in
    sym same
point_of scope (leaf l) at env a h = tt
point_of scope (item x e) at env a h = tt
point_of scope (one op e) at env a h = tt
point_of scope (two op e f) at env a h = tt
point_of scope (choice c e f) at env a h = tt

big_places : (e : Term) (a : Interval) → KeepsScales e → IsPointOf e a → a.s_hi ≤ most_places → (big_range e a).s_hi ≤ most_places
big_places (leaf (point d)) a keeps is h =
    let s = shortened_is fewest_places d keeps in
    let g : scale_of d ≡ a.s_hi = sym (ap (λ a. a.s_hi) is) in
    omega (arith, s.high)
big_places (leaf l) a keeps is h = h
big_places (item x e) a keeps is h = h
big_places (one op e) a keeps is h = h
big_places (two op e f) a keeps is h = h
big_places (choice c e f) a keeps is h = h

pub one_shape : (op : One) (k : NodeKind) (e : Term) (a r : Interval) → takes_one op k ≡ true → OneKeepsScale op → KeepsScales e → IsPointOf e a → HasShape k a → one_range op (kind_of_one op k) e a ≡ Ok r → HasShape (kind_of_one op k) r
one_shape (unary Minus) k e a r takes keeps scales is h g = bits_shape k r (hull_shape (bits_of k) (neg_ℤ a.hi) (neg_ℤ a.lo ∷ []) r g)
one_shape (unary Not) k e a r takes keeps scales is h g = absurd (cc)
one_shape (unary Negate) k e a r takes keeps scales is h g = big_shape r (subst (λ r. r.s_hi ≤ most_places) (ok_is _ r g) h.places)
one_shape (unary Abs) k e a r takes keeps scales is h g = big_shape r (subst (λ r. r.s_hi ≤ most_places) (ok_is _ r g) h.places)
one_shape value_of k e a r takes keeps scales is h g = big_shape r (subst (λ r. r.s_hi ≤ most_places) (ok_is _ r g) (big_places e a scales is h.places))
one_shape (value_of_scaled s) k e a r takes keeps scales is h g = big_shape r (subst (λ r. r.s_hi ≤ most_places) (ok_is _ r g) keeps)
one_shape new_big k e a r takes keeps scales is h g = big_shape r (subst (λ r. r.s_hi ≤ most_places) (ok_is _ r g) h.places)
one_shape (set_scale s mode) k e a r takes keeps scales is h g = rescaled_shape mode s a r keeps g

-- ---- two operands

pub shown_shape : (o : Option Decimal) (a r : Interval) → shown_range o a ≡ Ok r → HasShape Big r
shown_shape (Some d) a r g = exact_quotient_shape (numerator_of d) a r g
shown_shape None a r g = absurd (cc)

corners_shape : (bits : ℕ) (f : ℤ → ℤ → ℤ) (a b r : Interval) → whole_row bits f a b ≡ Ok r → IsWholeOfBits bits r
corners_shape bits f a b r g = hull_shape bits (f a.lo b.lo) (f a.lo b.hi ∷ (f a.hi b.lo ∷ (f a.hi b.hi ∷ []))) r g

method_shape : (m : Call) (o : Option Decimal) (j k : NodeKind) (a b r : Interval) → HasShape j a → HasShape k b → method_range m o a b ≡ Ok r → HasShape (kind_of_two (method m) j k) r
method_shape calls.Add o j k a b r ha hb g = sum_places a b ha.places hb.places r g
method_shape calls.Subtract o j k a b r ha hb g = difference_places a b ha.places hb.places r g
method_shape calls.Multiply o j k a b r ha hb g = product_shape a b r g
method_shape calls.DivideExact o j k a b r ha hb g = shown_shape o a r g
method_shape calls.CompareTo o j k a b r ha hb g = comparison_shape a b r g
method_shape calls.Min o j k a b r ha hb g = min_places a b ha.places hb.places r g
method_shape calls.Max o j k a b r ha hb g = max_places a b ha.places hb.places r g

operator_shape : (scope : Scope) (o : Binary) (e f : Term) (j k : NodeKind) (a b r : Interval) → takes_two scope (operator o) e j f k ≡ true → HasShape j a → operator_range o (bits_of (kind_of_two (operator o) j k)) a b ≡ Ok r → HasShape (kind_of_two (operator o) j k) r
operator_shape scope binaries.Mul e f j k a b r t ha g = bits_shape (wider j k) r (corners_shape (bits_of (wider j k)) whole_product a b r g)
operator_shape scope binaries.Div e f j k a b r t ha g = bits_shape (wider j k) r (corners_shape (bits_of (wider j k)) whole_quotient a b r (unless_ok (has_zero b) Divisor (whole_row (bits_of (wider j k)) whole_quotient a b) r g).1)
operator_shape scope binaries.Rem e f j k a b r t ha g = bits_shape (wider j k) r (remainder_shape (bits_of (wider j k)) a b r (wider_left j k a (both_true (is_whole j) (is_whole k) t).0 ha) g)
operator_shape scope binaries.Plus e f j k a b r t ha g = bits_shape (wider j k) r (corners_shape (bits_of (wider j k)) whole_sum a b r g)
operator_shape scope binaries.Sub e f j k a b r t ha g = bits_shape (wider j k) r (corners_shape (bits_of (wider j k)) whole_difference a b r g)
operator_shape scope binaries.Less e f j k a b r t ha g = absurd (cc)
operator_shape scope binaries.LessEq e f j k a b r t ha g = absurd (cc)
operator_shape scope binaries.More e f j k a b r t ha g = absurd (cc)
operator_shape scope binaries.MoreEq e f j k a b r t ha g = absurd (cc)
operator_shape scope binaries.Same e f j k a b r t ha g = absurd (cc)
operator_shape scope binaries.Differs e f j k a b r t ha g = absurd (cc)
operator_shape scope binaries.And e f j k a b r t ha g = absurd (cc)
operator_shape scope binaries.Or e f j k a b r t ha g = absurd (cc)

pub two_shape : (scope : Scope) (op : Two) (e f : Term) (j k : NodeKind) (a b r : Interval) → takes_two scope op e j f k ≡ true → TwoKeepsScale op → HasShape j a → HasShape k b → two_range scope op (kind_of_two op j k) f a b ≡ Ok r → HasShape (kind_of_two op j k) r
two_shape scope (operator o) e f j k a b r t keeps ha hb g = operator_shape scope o e f j k a b r t ha g
two_shape scope (method m) e f j k a b r t keeps ha hb g = method_shape m (shown_divisor scope f) j k a b r ha hb g
two_shape scope (divide s mode) e f j k a b r t keeps ha hb g = quotient_shape mode s a b r keeps g

-- ---- the whole

module _ (scope : Scope) where
  -- what comes of either part
  choice_shape : (j k : NodeKind) (none : NodeFault) (at : ℕ) (first second : Ranges → Result Interval NodeFault) (o p : Option Ranges) (r : Interval) → are_parts j k ≡ true → ((s : Ranges) (a : Interval) → first s ≡ Ok a → HasShape j a) → ((s : Ranges) (b : Interval) → second s ≡ Ok b → HasShape k b) → either_way none first second (λ a b. at_node at (a ∷ b ∷ []) (join_row a b)) o p ≡ Ok r → HasShape (wider j k) r
  choice_shape j k none at first second None None r fit ha hb e = absurd (cc)
  choice_shape j k none at first second (Some s) None r fit ha hb e = first_shape j k fit r (ha s r e)
  choice_shape j k none at first second None (Some s) r fit ha hb e = second_shape j k fit r (hb s r e)
  choice_shape j k none at first second (Some s) (Some t) r fit ha hb e =
      let x = stepped (first s) (λ a. and_then (second t) (λ b. at_node at (a ∷ b ∷ []) (join_row a b))) r e in
      let y = stepped (second t) (λ b. at_node at (x.0 ∷ b ∷ []) (join_row x.0 b)) r x.2 in
      join_shape j k fit x.0 y.0 r (ha s x.0 x.1) (hb t y.0 y.1) (passed_node at _ (join_row x.0 y.0) r y.2)

  pub ranged_shape : (t : Term) (at : ℕ) (env : Ranges) (r : Interval) → IsTypedTerm scope t → KeepsScales t → ranged scope t at env ≡ Ok r → HasShape (kind_of scope t) r
  ranged_shape (leaf l) at env r typed keeps e = (leaf_shape scope l env r (passed_node at _ (leaf_range scope l env) r e)).1
  ranged_shape (item x i) at env r typed keeps e =
      let a = stepped (ranged scope i at env) (λ a. at_node (at + nodes i) (a ∷ []) (item_range (table_in scope x) a)) r e in
      (read_item_shape (item_row (table_in scope x) a.0) r (passed_node (at + nodes i) _ (item_range (table_in scope x) a.0) r a.2)).1
  ranged_shape (one op t) at env r typed keeps e =
      let k = kind_of scope t in
      let a = stepped (ranged scope t at env) (λ a. at_node (at + nodes t) (a ∷ []) (one_range op (kind_of_one op k) t a)) r e in
      let h = ranged_shape t at env a.0 typed.0 keeps.1 a.1 in
      one_shape op k t a.0 r typed.1 keeps.0 keeps.1 (point_of scope t at env a.0 a.1) h (passed_node (at + nodes t) _ (one_range op (kind_of_one op k) t a.0) r a.2)
  ranged_shape (two op s t) at env r typed keeps e =
      let j = kind_of scope s in
      let k = kind_of scope t in
      let node = at + nodes s + nodes t in
      let a = stepped (ranged scope s at env) (λ a. and_then (ranged scope t (at + nodes s) env) (λ b. at_node node (a ∷ b ∷ []) (two_range scope op (kind_of_two op j k) t a b))) r e in
      let b = stepped (ranged scope t (at + nodes s) env) (λ b. at_node node (a.0 ∷ b ∷ []) (two_range scope op (kind_of_two op j k) t a.0 b)) r a.2 in
      two_shape scope op s t j k a.0 b.0 r typed.2 keeps.0 (ranged_shape s at env a.0 typed.0 keeps.1 a.1) (ranged_shape t (at + nodes s) env b.0 typed.1 keeps.2 b.1) (passed_node node _ (two_range scope op (kind_of_two op j k) t a.0 b.0) r b.2)
  ranged_shape (choice c s t) at env r typed keeps e =
      let node = at + nodes c + nodes s + nodes t in
      let first = ranged scope s (at + nodes c) in
      let second = ranged scope t (at + nodes c + nodes s) in
      let br = stepped (tested scope c at env) (λ br. either_way (nowhere node) first second (λ a b. at_node node (a ∷ b ∷ []) (join_row a b)) br.holds br.fails) r e in
      choice_shape (kind_of scope s) (kind_of scope t) (nowhere node) node first second br.0.holds br.0.fails r typed.3.parts
      (λ env a f. ranged_shape s (at + nodes c) env a typed.1 keeps.1 f)
      (λ env b f. ranged_shape t (at + nodes c + nodes s) env b typed.2 keeps.2 f)
      br.2
