-- Steps of the walk of comparisons, and what operations take of typed operands.
use Rattle.std.proofs.Common.{◌≡◌, ℕ, ◌+◌, Bool, true, false, ◌&&◌, ℤ, pos, List, [], ◌∷◌, Option, Some, None, Result, Ok, Err, refl, sym, ap, ap₂, ◌∙◌, subst, arith, ◌⊎◌, inl, inr}
use Rattle.std.specs.Prelude.{is_some}
use Rattle.std.specs.Int.{w128, w32}
use Rattle.std.proofs.Common.{FitsSigned, to_z, of_z}
use Rattle.std.proofs.lemmas.Int.{ints}
use Rattle.std.specs.Bool.{OnTrue}
use Rattle.std.specs.Option.{option_or, option_map}
use Rattle.std.specs.Result.{IsErrAnd}
use Rattle.scaled_decimal.specs.Decimals.{Decimal, decimal}
use Rattle.scaled_decimal.specs.WholeNumbers.{whole_decimal}
use Rattle.pap_tree.specs.declared.expression.Unary.{Unary}
use Rattle.pap_tree.specs.declared.expression.Unary.TheVariants.{Minus, Not, Negate, Abs}
use Rattle.pap_tree.specs.declared.expression.Binary.{Binary}
use Rattle.pap_tree.specs.declared.expression.Binary.TheVariants as binaries
use Rattle.pap_tree.specs.declared.expression.Call.{Call}
use Rattle.pap_tree.specs.declared.expression.Call.TheVariants as calls
use Rattle.pap_tree.specs.Term.{Term, term_of, leaf, item, one, two, choice, whole, long, point, text, known, named, unary, operator, method, divide}
use Rattle.pap_tree.specs.Numbering.{nodes}
use Rattle.interval_num.specs.declared.sign_set.SignSet.{SignSet}
use Rattle.interval_num.specs.Intervals.{Interval, IsWhole}
use Rattle.interval_num.specs.Alignment.{Align}
use Rattle.interval_num.specs.Rows.{RowAnswer, comparison_row}
use Rattle.pap_types.specs.declared.kinds.NodeKind.{NodeKind}
use Rattle.pap_types.specs.declared.kinds.NodeKind.TheVariants as kinds
use Rattle.pap_types.specs.Safety.{bits_of}
use Rattle.pap_types.specs.Scopes.{Scope, constant_in, number_of}
use Rattle.pap_types.specs.Kinds.{is_whole, is_int, is_big, kind_of, kind_of_one, kind_of_two, kind_of_operator, takes_one, takes_operator, takes_two, shown_divisor, shows_plain_divisor, int_literal}
use Rattle.interval_walk.specs.Ranges.{Ranges, single}
use Rattle.interval_walk.specs.Failures.{NodeFault, and_then, at_node}
use Rattle.interval_walk.specs.NodeRanges.{leaf_range, read_range, comparison_range}
use Rattle.interval_walk.specs.Branches as meant
use Rattle.interval_walk.specs.Branches.{signs_where, compared, sides}
use Rattle.interval_walk.specs.Ranged.{ranged, are_whole, compare_sides}
use Rattle.interval_walk.specs.Shapes.{HasShape}
use Rattle.interval_walk.proofs.Laws.{leaf_shape, passed_node, shape_bits, wider_left, wider_right, shown_plain, comparison_row_aligned}
use Rattle.interval_analysis.specs.declared.expressions.Stop.{Stop}
use Rattle.interval_analysis.specs.declared.expressions.Stop.TheVariants.{At, AtOne, AtTwo, Memory}
use Rattle.interval_analysis.specs.declared.comparisons.Compared.{Compared}
use Rattle.interval_analysis.specs.declared.conditions.Inner.{Inner}
use Rattle.interval_analysis.specs.declared.conditions.Tested.{Tested}
use Rattle.interval_analysis.specs.declared.expressions.Operands.{Operands}
use Rattle.interval_analysis.specs.declared.expressions.Ranged.{Ranged}
use Rattle.pap_tree.specs.declared.shapes.One.{One}
use Rattle.pap_tree.specs.declared.shapes.One.TheVariants as ones
use Rattle.pap_tree.specs.declared.shapes.Two.{Two}
use Rattle.pap_tree.specs.declared.shapes.Two.TheVariants as twos
use Rattle.pap_tree.specs.Shapes.{one_meant, two_meant}
use Rattle.interval_analysis.specs.private.ShapeViews.{TakesOne, TakesTwo}
use Rattle.interval_analysis.specs.declared.expressions.Walk.{Walk}
use Rattle.pap_types.specs.private.ScopeViews.{scope_in, variables_in}
use Rattle.interval_analysis.specs.private.PlanViews.{IsSized, variable_in, ranges_in}
use Rattle.interval_analysis.specs.private.ComparisonViews.{CanCompare, HasRange, Ways, branches_by, sides_of}
use Rattle.interval_analysis.proofs.NameLemmas as names
use Rattle.interval_analysis.proofs.NameLemmas.{named_by}
use Rattle.interval_analysis.proofs.NarrowLemmas.{branches_named}
use Rattle.pap_tree.specs.declared.plan.PlanText.{PlanText}
use Rattle.std.specs.Prelude.{slice_get}
use Rattle.std.proofs.lemmas.Option.{slice_get_cases}
use Rattle.interval_analysis.specs.private.OperationViews.{TakesUnary, TakesWholes, TakesShown, IsPlainShown}
use Rattle.interval_analysis.specs.private.ExpressionViews.{AreRanged, CanWalk, CanWalkTwo, IsRanged, StopsAs, ranged_in, second_in}
use Rattle.interval_analysis.specs.private.TestViews.{Comparison, ComparedAnswer, ComparesAs, HaveShapes, IsInner, IsPassed, IsPlainComparison, OrderAnswer, TestsAs, WaysFrom, comparison, comparison_in, is_compare_to, named_ways, order_compared, order_node, sides_compared}
use Rattle.interval_analysis.proofs.NodeLemmas.{can_item, can_one, can_two, left_shape, right_shape, shape, stops_first, stops_two}

-- a number that is made longer
pub widened : (n : ℤ) → FitsSigned w32 n → to_z w128 (of_z w128 (to_z w32 (of_z w32 n))) ≡ n
widened n h = omega (arith, ints)

both : (s t : Bool) → (s && t) ≡ true → (s ≡ true) × (t ≡ true)
both true t e = (refl, e)
both false t e = absurd (cc)

-- ---- what operations take

pub takes_unary : (op : Unary) (k : NodeKind) (a : Interval) → takes_one (unary op) k ≡ true → HasShape k a → TakesUnary op (bits_of (kind_of_one (unary op) k)) a
takes_unary Minus k a t h = shape_bits k a t h
takes_unary Not k a t h = tt
takes_unary Negate k a t h = tt
takes_unary Abs k a t h = tt

module _ (e f : Term) (j k : NodeKind) (a b : Interval) (ha : HasShape j a) (hb : HasShape k b) where
  pub takes_wholes : (op : Binary) → takes_operator op e j f k ≡ true → TakesWholes op (bits_of (kind_of_operator op j k)) a b
  takes_wholes binaries.Mul t = let p = both (is_whole j) (is_whole k) t in record { left = wider_left j k a p.0 ha; right = wider_right j k b p.0 p.1 hb }
  takes_wholes binaries.Div t = let p = both (is_whole j) (is_whole k) t in record { left = wider_left j k a p.0 ha; right = wider_right j k b p.0 p.1 hb }
  takes_wholes binaries.Rem t = let p = both (is_whole j) (is_whole k) t in record { left = wider_left j k a p.0 ha; right = wider_right j k b p.0 p.1 hb }
  takes_wholes binaries.Plus t = let p = both (is_whole j) (is_whole k) t in record { left = wider_left j k a p.0 ha; right = wider_right j k b p.0 p.1 hb }
  takes_wholes binaries.Sub t = let p = both (is_whole j) (is_whole k) t in record { left = wider_left j k a p.0 ha; right = wider_right j k b p.0 p.1 hb }
  takes_wholes binaries.Less t = tt
  takes_wholes binaries.LessEq t = tt
  takes_wholes binaries.More t = tt
  takes_wholes binaries.MoreEq t = tt
  takes_wholes binaries.Same t = tt
  takes_wholes binaries.Differs t = tt
  takes_wholes binaries.And t = tt
  takes_wholes binaries.Or t = tt

pub takes_shown : (scope : Scope) (call : Call) (e f : Term) (j k : NodeKind) (o : Option Decimal) → takes_two scope (method call) e j f k ≡ true → o ≡ shown_divisor scope f → TakesShown call o
takes_shown scope calls.DivideExact e f j k o t is =
    let plain = shown_plain scope f (both (is_big k) (shows_plain_divisor scope f) (both (is_big j) (is_big k && shows_plain_divisor scope f) t).1).1 in
    subst IsPlainShown (sym (is ∙ plain.1)) plain.2
takes_shown scope calls.Add e f j k o t is = tt
takes_shown scope calls.Subtract e f j k o t is = tt
takes_shown scope calls.Multiply e f j k o t is = tt
takes_shown scope calls.CompareTo e f j k o t is = tt
takes_shown scope calls.Min e f j k o t is = tt
takes_shown scope calls.Max e f j k o t is = tt

pub index_whole : (k : NodeKind) (a : Interval) → is_int k ≡ true → HasShape k a → IsWhole a
index_whole kinds.Int a i h = h.suits.whole
index_whole kinds.Long a i h = absurd (cc)
index_whole kinds.Big a i h = absurd (cc)
index_whole kinds.Truth a i h = absurd (cc)
index_whole kinds.Fraction a i h = absurd (cc)
index_whole kinds.Factor a i h = absurd (cc)
index_whole kinds.Table a i h = absurd (cc)

module _ (w : Walk) (at : ℕ) (rs : List Interval) where
  pub takes_operand : (op : One) (e : Term) (a : Ranged) → CanWalk w (one (one_meant op) e) at → IsRanged w e at rs a → TakesOne op (kind_of_one (one_meant op) a.kind) a.range
  takes_operand (ones.Unary u) e a can h =
      takes_unary u a.kind a.range (subst (λ k. takes_one (unary u) k ≡ true) (sym h.kind) can.typed.1) (shape w at rs e a (can_one w at (unary u) e can) h)
  takes_operand ones.ValueOf e a can h = tt
  takes_operand (ones.ValueOfScaled s) e a can h = can.scales.0
  takes_operand ones.NewInt e a can h = tt
  takes_operand (ones.SetScale s mode) e a can h = can.scales.0

  pub takes_operands : (op : Two) (e f : Term) (o : Operands) → CanWalk w (two (two_meant op) e f) at → AreRanged w e f at rs o → TakesTwo (scope_in w.plan.now) op (kind_of_two (two_meant op) o.first.kind o.second.kind) f o.first.range o.second.range
  takes_operands (twos.Operator b) e f o can h =
      let both = can_two w at (operator b) e f can in
      let fits = subst (λ j. takes_operator b e j f o.second.kind ≡ true) (sym h.first.kind) (subst (λ k. takes_operator b e (kind_of (scope_in w.plan.now) e) f k ≡ true) (sym h.second.kind) can.typed.2) in
      takes_wholes e f o.first.kind o.second.kind o.first.range o.second.range (left_shape w at rs e f o both h) (right_shape w at rs e f o both h) b fits
  takes_operands (twos.Method m) e f o can h =
      let scope = scope_in w.plan.now in
      takes_shown scope m e f (kind_of scope e) (kind_of scope f) (shown_divisor scope f) can.typed.2 refl
  takes_operands (twos.Divide s mode) e f o can h = can.scales.0

  pub takes_index : (x : List ℕ) (e : Term) (a : Ranged) → CanWalk w (item x e) at → IsRanged w e at rs a → IsWhole a.range
  takes_index x e a can h =
      index_whole a.kind a.range (subst (λ k. is_int k ≡ true) (sym h.kind) can.typed.1.index) (shape w at rs e a (can_item w at x e can) h)

-- ---- the sides of a comparison

pub left_whole : (j k : NodeKind) (a : Interval) (w : Bool) → w ≡ (is_whole j && is_whole k) → HasShape j a → OnTrue w (IsWhole a)
left_whole j k a true e h = (shape_bits j a (both (is_whole j) (is_whole k) (sym e)).0 h).whole
left_whole j k a false e h = tt

pub right_whole : (j k : NodeKind) (b : Interval) (w : Bool) → w ≡ (is_whole j && is_whole k) → HasShape k b → OnTrue w (IsWhole b)
right_whole j k b true e h = (shape_bits k b (both (is_whole j) (is_whole k) (sym e)).1 h).whole
right_whole j k b false e h = tt

-- the range of an expression that is a variable's name is the variable's
pub has_range : (w : Walk) (e : Term) (at : ℕ) (rs : List Interval) (r : Ranged) → IsSized w.plan.now rs → IsRanged w e at rs r → HasRange r rs
has_range w e at rs r sized h n is = by e h.range (sym is ∙ h.variable)
  where
    of_name : (x : List ℕ) → ranged_in w (leaf (named x)) at rs ≡ Ok r.range → Some n ≡ number_of (variables_in w.plan.now) x → slice_get rs n ≡ Some r.range
    of_name x range number =
        let env = ranges_in w.plan.now rs in
        let scope = scope_in w.plan.now in
        let read = (leaf_shape scope (named x) env r.range (passed_node at _ (leaf_range scope (named x) env) r.range range)).0 in
        let there = named_by (variables_in w.plan.now) rs x n sized (sym number) in
        let within = (names.number_in (variables_in w.plan.now) x n (sym number)).1 in
        elim (slice_get_cases rs n).1 [
          | inl here ↦ (let own = ap (λ o. option_or o (option_map single (constant_in scope x))) (there ∙ here.2) in
              let same : Some here.0 ≡ Some r.range = cc in here.2 ∙ same)
          | inr past ↦ absurd (omega (arith, within, past.0, sized))
        ]

    by : (e : Term) → ranged_in w e at rs ≡ Ok r.range → Some n ≡ variable_in w.plan.now e → slice_get rs n ≡ Some r.range
    by (leaf (named x)) range number = of_name x range number
    by (leaf (whole i)) range number = absurd (cc)
    by (leaf (long i)) range number = absurd (cc)
    by (leaf (point d)) range number = absurd (cc)
    by (leaf (text d)) range number = absurd (cc)
    by (leaf (known k)) range number = absurd (cc)
    by (item x t) range number = absurd (cc)
    by (one op t) range number = absurd (cc)
    by (two op t u) range number = absurd (cc)
    by (choice t u v) range number = absurd (cc)

-- ---- a comparison of two sides

no_sides : (scope : Scope) (e : Term) (at : ℕ) (env : Ranges) → is_compare_to e ≡ false → compare_sides scope e at env ≡ None
no_sides scope (leaf l) at env h = refl
no_sides scope (item x t) at env h = refl
no_sides scope (one op t) at env h = refl
no_sides scope (two (operator o) t u) at env h = refl
no_sides scope (two (divide s m) t u) at env h = refl
no_sides scope (two (method calls.CompareTo) t u) at env h = absurd (cc)
no_sides scope (two (method calls.Add) t u) at env h = refl
no_sides scope (two (method calls.Subtract) t u) at env h = refl
no_sides scope (two (method calls.Multiply) t u) at env h = refl
no_sides scope (two (method calls.DivideExact) t u) at env h = refl
no_sides scope (two (method calls.Min) t u) at env h = refl
no_sides scope (two (method calls.Max) t u) at env h = refl
no_sides scope (choice t u v) at env h = refl

module _ (op : Binary) (w : Bool) (direct : meant.Sides) (env : Ranges) where
  plain_of : (o : Option meant.Sides) (k : Option Decimal) → (o ≡ None) ⊎ (is_some k ≡ false) → compared op w direct o k env ≡ meant.branches_of w (signs_where op (pos 0)) direct env
  plain_of None k h = refl
  plain_of (Some s) None h = refl
  plain_of (Some s) (Some k) (inl h) = absurd (cc)
  plain_of (Some s) (Some k) (inr h) = absurd (cc)

  plain_compared : (scope : Scope) (e f : Term) (at : ℕ) → IsPlainComparison e f → compared op w direct (compare_sides scope e at env) (int_literal f) env ≡ meant.branches_of w (signs_where op (pos 0)) direct env
  plain_compared scope e f at h = plain_of (compare_sides scope e at env) (int_literal f) (by_test (is_compare_to e) refl h)
    where
      by_test : (t : Bool) → is_compare_to e ≡ t → (t && is_some (int_literal f)) ≡ false → (compare_sides scope e at env ≡ None) ⊎ (is_some (int_literal f) ≡ false)
      by_test true g h = inr h
      by_test false g h = inl (no_sides scope e at env g)

-- ---- both, from the ranges of the sides

-- what is compared by the numbers of the variables is so by their names
same_compared : (w : Walk) (c : Comparison) (at : ℕ) (q : WaysFrom) (m : ℕ) (o : Operands) (rs : List Interval) (res : Result Compared Stop)
    → comparison_in w c at (ranges_in w.plan.now rs) ≡ and_then (q rs) (λ ways. Ok (named_ways w.plan.now ways)) → at + nodes c.left + nodes c.right + 1 ≡ m → HasRange o.first rs → HasRange o.second rs
    → ComparesAs q m o res → ComparedAnswer w c at rs res
same_compared w c at q m o rs (Ok d) is end left right h = record {
  branches = is ∙ ap (λ q. and_then q (λ ways. Ok (named_ways w.plan.now ways))) (h.branches rs);
  can = subst (λ s. CanCompare s rs) (sym h.sides) (record { ranges = h.refines; left = left; right = right });
  next = h.next ∙ sym end;
}
same_compared w c at q m o rs (Err (At i x)) is end left right h = is ∙ ap (λ q. and_then q (λ ways. Ok (named_ways w.plan.now ways))) (h rs)
same_compared w c at q m o rs (Err (AtOne i x y)) is end left right h = is ∙ ap (λ q. and_then q (λ ways. Ok (named_ways w.plan.now ways))) (h rs)
same_compared w c at q m o rs (Err (AtTwo i x y z)) is end left right h = is ∙ ap (λ q. and_then q (λ ways. Ok (named_ways w.plan.now ways))) (h rs)
same_compared w c at q m o rs (Err Memory) is end left right h = tt

-- ways behind a node
behind_node : {A : Type 0} (p : PlanText) (q : Result A NodeFault) (ways : Ways) → and_then q (λ _. Ok (named_ways p ways)) ≡ and_then (and_then q (λ _. Ok ways)) (λ ways. Ok (named_ways p ways))
behind_node p (Ok a) ways = refl
behind_node p (Err e) ways = refl

module _ (w : Walk) (op : Binary) (e f : Term) (at : ℕ) (rs : List Interval) (o : Operands) (h : AreRanged w e f at rs o) where
  abbrev scope : Scope
  scope = scope_in w.plan.now

  abbrev env : Ranges
  env = ranges_in w.plan.now rs

  -- the number behind both
  end_is : at + nodes e + nodes f ≡ o.second.next
  end_is = ap (λ n. n + nodes f) (sym h.first.next) ∙ sym h.second.next

  -- what follows two ranges
  behind : {A : Type 0} (go : Interval → Interval → Result A NodeFault) → and_then (ranged scope e at env) (λ a. and_then (ranged scope f (at + nodes e) env) (go a)) ≡ go o.first.range o.second.range
  behind go =
      ap (λ q. and_then q (λ a. and_then (ranged scope f (at + nodes e) env) (go a))) h.first.range
      ∙ ap (λ q. and_then q (go o.first.range)) (ap (λ n. ranged scope f n env) (sym h.first.next) ∙ h.second.range)

  -- the branches of the sides
  ways_are : IsSized w.plan.now rs → (x : Bool) (s : SignSet) → meant.branches_of x s (sides e f o.first.range o.second.range) env ≡ named_ways w.plan.now (branches_by (sides_of o x) s rs)
  ways_are sized x s = branches_named w.plan.now (sides_of o x) e f h.first.variable h.second.variable rs sized s

  sides_are : IsSized w.plan.now rs → IsPlainComparison e f → comparison_in w (comparison op e f) at env ≡ and_then (sides_compared op o rs) (λ ways. Ok (named_ways w.plan.now ways))
  sides_are sized plain =
      behind (λ a b. and_then (at_node (at + nodes e + nodes f) (a ∷ b ∷ []) (comparison_range op a b)) (λ r. Ok (compared op (are_whole scope e f) (sides e f a b) (compare_sides scope e at env) (int_literal f) env)))
      ∙ ap₂ (λ n br. and_then (at_node n (o.first.range ∷ o.second.range ∷ []) (comparison_range op o.first.range o.second.range)) (λ r. Ok br)) end_is
      (plain_compared op (are_whole scope e f) (sides e f o.first.range o.second.range) env scope e f at plain
      ∙ ap₂ (λ j k. meant.branches_of (is_whole j && is_whole k) (signs_where op (pos 0)) (sides e f o.first.range o.second.range) env) (sym h.first.kind) (sym h.second.kind)
      ∙ ways_are sized (is_whole o.first.kind && is_whole o.second.kind) (signs_where op (pos 0)))
      ∙ behind_node w.plan.now (at_node o.second.next (o.first.range ∷ o.second.range ∷ []) (comparison_range op o.first.range o.second.range)) (branches_by (sides_of o (is_whole o.first.kind && is_whole o.second.kind)) (signs_where op (pos 0)) rs)

  left_range : IsSized w.plan.now rs → HasRange o.first rs
  left_range sized = has_range w e at rs o.first sized h.first

  right_range : IsSized w.plan.now rs → HasRange o.second rs
  right_range sized = has_range w f o.first.next rs o.second sized h.second

  pub sides_answer : (res : Result Compared Stop) → IsSized w.plan.now rs → IsPlainComparison e f → ComparesAs (sides_compared op o) (o.second.next + 1) o res → ComparedAnswer w (comparison op e f) at rs res
  sides_answer res sized plain compares =
      same_compared w (comparison op e f) at (sides_compared op o) (o.second.next + 1) o rs res (sides_are sized plain) (ap (λ n. n + 1) end_is) (left_range sized) (right_range sized) compares

  -- the sides of a compareTo
  module _ (k : ℤ) where
    abbrev whole_of : Term
    whole_of = two (method calls.CompareTo) e f

    inner_sides : compare_sides scope whole_of at env ≡ Some (sides e f o.first.range o.second.range)
    inner_sides =
        ap (λ r. meant.sides_of e f r (ranged scope f (at + nodes e) env)) h.first.range
        ∙ ap (λ r. meant.sides_of e f (Ok o.first.range) r) (ap (λ i. ranged scope f i env) (sym h.first.next) ∙ h.second.range)

    -- the nodes of the compareTo, of the literal and of the comparison
    order_are : comparison_in w (comparison op whole_of (leaf (whole k))) at env ≡ and_then (order_node op k o.first.range o.second.range o.second.next) (λ _. Ok (meant.branches_of false (signs_where op k) (sides e f o.first.range o.second.range) env))
    order_are =
        let number : at + nodes whole_of ≡ o.second.next + 1 = omega (arith, end_is) in
        let last : at + nodes whole_of + 1 ≡ o.second.next + 2 = omega (arith, end_is) in
        let node = at_node o.second.next (o.first.range ∷ o.second.range ∷ []) (comparison_row o.first.range o.second.range) in
        let direct = λ (c l : Interval). sides whole_of (leaf (whole k)) c l in
        let go = λ (n m : ℕ) (s : Option meant.Sides) (r : Result Interval NodeFault). and_then r (λ c. and_then (at_node n [] (read_range kinds.Int (single (whole_decimal k)))) (λ l. and_then (at_node m (c ∷ l ∷ []) (comparison_range op c l)) (λ x. Ok (compared op (are_whole scope whole_of (leaf (whole k))) (direct c l) s (Some (decimal k 0)) env)))) in
        let there = behind (λ a b. at_node (at + nodes e + nodes f) (a ∷ b ∷ []) (comparison_row a b)) ∙ ap (λ n. at_node n (o.first.range ∷ o.second.range ∷ []) (comparison_row o.first.range o.second.range)) end_is in
        ap (go (at + nodes whole_of) (at + nodes whole_of + 1) (compare_sides scope whole_of at env)) there
        ∙ ap (λ s. go (at + nodes whole_of) (at + nodes whole_of + 1) s node) inner_sides
        ∙ ap₂ (λ n m. go n m (Some (sides e f o.first.range o.second.range)) node) number last
        ∙ by node
      where
        by : (r : Result Interval NodeFault) → and_then r (λ c. and_then (at_node (o.second.next + 1) [] (read_range kinds.Int (single (whole_decimal k)))) (λ l. and_then (at_node (o.second.next + 2) (c ∷ l ∷ []) (comparison_range op c l)) (λ x. Ok (meant.branches_of false (signs_where op k) (sides e f o.first.range o.second.range) env))))
            ≡ and_then (and_then r (λ c. and_then (at_node (o.second.next + 1) [] (read_range kinds.Int (single (whole_decimal k)))) (λ l. at_node (o.second.next + 2) (c ∷ l ∷ []) (comparison_range op c l)))) (λ _. Ok (meant.branches_of false (signs_where op k) (sides e f o.first.range o.second.range) env))
        by (Err x) = refl
        by (Ok c) = at_literal (at_node (o.second.next + 1) [] (read_range kinds.Int (single (whole_decimal k))))
          where
            at_literal : (q : Result Interval NodeFault) → and_then q (λ l. and_then (at_node (o.second.next + 2) (c ∷ l ∷ []) (comparison_range op c l)) (λ x. Ok (meant.branches_of false (signs_where op k) (sides e f o.first.range o.second.range) env)))
                ≡ and_then (and_then q (λ l. at_node (o.second.next + 2) (c ∷ l ∷ []) (comparison_range op c l))) (λ _. Ok (meant.branches_of false (signs_where op k) (sides e f o.first.range o.second.range) env))
            at_literal (Err x) = refl
            at_literal (Ok l) = refl

pub order_answer : (w : Walk) (op : Binary) (e f : Term) (i : Inner) (at : ℕ) (rs : List Interval) (o : Operands) (res : Result Compared Stop) → IsSized w.plan.now rs → IsInner e f i → AreRanged w (term_of i.left.now) (term_of i.right.now) at rs o
    → ComparesAs (order_compared op i.number o) (o.second.next + 3) o res → ComparedAnswer w (comparison op e f) at rs res
order_answer w op e f i at rs o res sized inner h compares =
    let x = term_of i.left.now in
    let y = term_of i.right.now in
    let t = two (method calls.CompareTo) x y in
    let k = i.number in
    let node = order_node op k o.first.range o.second.range o.second.next in
    let ways =
    ap (λ br. and_then node (λ _. Ok br)) (ways_are w op x y at rs o h sized false (signs_where op k))
    ∙ behind_node w.plan.now node (branches_by (sides_of o false) (signs_where op k) rs) in
    let whole_answer : ComparedAnswer w (comparison op t (leaf (whole i.number))) at rs res =
    same_compared w (comparison op t (leaf (whole i.number))) at (order_compared op k o) (o.second.next + 3) o rs res
    (order_are w op x y at rs o h k ∙ ways) (omega (arith, h.first.next, h.second.next)) (left_range w op x y at rs o h sized) (right_range w op x y at rs o h sized) compares in
    subst (λ e. ComparedAnswer w (comparison op e f) at rs res) (sym inner.left)
    (subst (λ f. ComparedAnswer w (comparison op t f) at rs res) (sym inner.right) whole_answer)

-- a compareTo stops where one of its sides does
pub order_stops : (w : Walk) (op : Binary) (e f : Term) (i : Inner) (at : ℕ) (rs : List Interval) (stop : Stop) → IsInner e f i → StopsAs (second_in w (term_of i.left.now) (term_of i.right.now) at rs) stop → StopsAs (comparison_in w (comparison op e f) at (ranges_in w.plan.now rs)) stop
order_stops w op e f i at rs stop inner h =
    let scope = scope_in w.plan.now in
    let env = ranges_in w.plan.now rs in
    let x = term_of i.left.now in
    let y = term_of i.right.now in
    let t = two (method calls.CompareTo) x y in
    let first = stops_two (ranged_in w x at rs) (ranged_in w y (at + nodes x) rs) (λ a b. at_node (at + nodes x + nodes y) (a ∷ b ∷ []) (comparison_row a b)) stop h in
    subst (λ e. StopsAs (comparison_in w (comparison op e f) at env) stop) (sym inner.left)
    (stops_first (ranged scope t at env) (λ a. and_then (ranged scope f (at + nodes t) env) (λ b. and_then (at_node (at + nodes t + nodes f) (a ∷ b ∷ []) (comparison_range op a b)) (λ r. Ok (compared op (are_whole scope t f) (sides t f a b) (compare_sides scope t at env) (int_literal f) env)))) stop first)

-- ---- what the branches of sides need

pub have_shapes : (w : Walk) (e f : Term) (at : ℕ) (rs : List Interval) (o : Operands) → CanWalkTwo w e f at → AreRanged w e f at rs o → HaveShapes o
have_shapes w e f at rs o can h = record { left = left_shape w at rs e f o can h; right = right_shape w at rs e f o can h }

pub order_aligned : (op : Binary) (k : ℤ) (a b : Interval) (n : ℕ) (r : Interval) → order_node op k a b n ≡ Ok r → Align a b
order_aligned op k a b n r h = by (comparison_row a b) refl h
  where
    by : (q : RowAnswer) → comparison_row a b ≡ q → and_then (at_node n (a ∷ b ∷ []) q) (λ c. and_then (at_node (n + 1) [] (read_range kinds.Int (single (whole_decimal k)))) (λ l. at_node (n + 2) (c ∷ l ∷ []) (comparison_range op c l))) ≡ Ok r → Align a b
    by (Ok c) e h = comparison_row_aligned a b c e
    by (Err c) e h = absurd (cc)

-- ---- the nodes of a compareTo with an `int` literal

module _ (op : Binary) (k : ℤ) (a b : Interval) (at : ℕ) (c : Interval) (n : ℕ) (first : at_node at (a ∷ b ∷ []) (comparison_row a b) ≡ Ok c) (number : n ≡ at + 1) where
  order_then : order_node op k a b at ≡ and_then (at_node n [] (read_range kinds.Int (single (whole_decimal k)))) (λ l. at_node (n + 1) (c ∷ l ∷ []) (comparison_range op c l))
  order_then =
      let last : at + 2 ≡ n + 1 = omega (arith, number) in
      ap (λ q. and_then q (λ c. and_then (at_node (at + 1) [] (read_range kinds.Int (single (whole_decimal k)))) (λ l. at_node (at + 2) (c ∷ l ∷ []) (comparison_range op c l)))) first
      ∙ ap₂ (λ i j. and_then (at_node i [] (read_range kinds.Int (single (whole_decimal k)))) (λ l. at_node j (c ∷ l ∷ []) (comparison_range op c l))) (sym number) last

  pub literal_stops : (stop : Stop) → StopsAs (at_node n [] (read_range kinds.Int (single (whole_decimal k)))) stop → StopsAs (order_node op k a b at) stop
  literal_stops stop h =
      subst (λ q. StopsAs q stop) (sym order_then)
      (stops_first (at_node n [] (read_range kinds.Int (single (whole_decimal k)))) (λ l. at_node (n + 1) (c ∷ l ∷ []) (comparison_range op c l)) stop h)

  module _ (l : Interval) (m : ℕ) (literal : at_node n [] (read_range kinds.Int (single (whole_decimal k))) ≡ Ok l) (next : m ≡ n + 1) where
    order_last : order_node op k a b at ≡ at_node m (c ∷ l ∷ []) (comparison_range op c l)
    order_last =
        order_then
        ∙ ap (λ q. and_then q (λ l. at_node (n + 1) (c ∷ l ∷ []) (comparison_range op c l))) literal
        ∙ ap (λ i. at_node i (c ∷ l ∷ []) (comparison_range op c l)) (sym next)

    pub order_node_stops : (stop : Stop) → StopsAs (at_node m (c ∷ l ∷ []) (comparison_range op c l)) stop → StopsAs (order_node op k a b at) stop
    order_node_stops stop h = subst (λ q. StopsAs q stop) (sym order_last) h

    pub order_passes : (r : Interval) (end : ℕ) → at_node m (c ∷ l ∷ []) (comparison_range op c l) ≡ Ok r → end ≡ m + 1 → IsPassed (order_node op k a b at) (at + 3) end
    order_passes r end h is = record { range = r; passes = order_last ∙ h; next = omega (arith, is, next, number) }

pub order_err : (op : Binary) (k : ℤ) (a b : Interval) (at : ℕ) (stop : Stop) (res : Result ℕ Stop) → IsErrAnd res (λ s. s ≡ stop) → StopsAs (order_node op k a b at) stop → OrderAnswer op k a b at res
order_err op k a b at stop (Ok n) is h = absurd is
order_err op k a b at stop (Err s) is h = subst (StopsAs (order_node op k a b at)) (sym is) h

pub compared_err : (w : Walk) (c : Comparison) (at : ℕ) (rs : List Interval) (stop : Stop) (res : Result Compared Stop) → IsErrAnd res (λ s. s ≡ stop) → StopsAs (comparison_in w c at (ranges_in w.plan.now rs)) stop → ComparedAnswer w c at rs res
compared_err w c at rs stop (Ok d) is h = absurd is
compared_err w c at rs stop (Err s) is h = subst (StopsAs (comparison_in w c at (ranges_in w.plan.now rs))) (sym is) h

pub tests_err : (w : Walk) (r : Result meant.Branches NodeFault) (end : ℕ) (rs : List Interval) (stop : Stop) (res : Result Tested Stop) → IsErrAnd res (λ s. s ≡ stop) → StopsAs r stop → TestsAs w r end rs res
tests_err w r end rs stop (Ok t) is h = absurd is
tests_err w r end rs stop (Err s) is h = subst (StopsAs r) (sym is) h

pub compares_err : (q : WaysFrom) (end : ℕ) (o : Operands) (stop : Stop) (res : Result Compared Stop) → IsErrAnd res (λ s. s ≡ stop) → ((rs : List Interval) → StopsAs (q rs) stop) → ComparesAs q end o res
compares_err q end o stop (Ok d) is h = absurd is
compares_err q end o stop (Err s) is h = λ rs. subst (StopsAs (q rs)) (sym is) (h rs)
