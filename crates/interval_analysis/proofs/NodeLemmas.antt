-- What a node answers, from what its operands do.
use Rattle.std.proofs.Common.{◌≡◌, ℕ, ◌+◌, List, [], ◌∷◌, Option, Some, None, Result, Ok, Err, refl, sym, ap, ap₂, ◌∙◌, subst, arith}
use Rattle.scaled_decimal.specs.Decimals.{Decimal}
use Rattle.std.specs.Result.{IsErrAnd}
use Rattle.pap_tree.specs.Term.{Term, item, One, one, Two, two}
use Rattle.pap_tree.specs.Numbering.{nodes}
use Rattle.interval_num.specs.Intervals.{Interval}
use Rattle.interval_num.specs.Rows.{join_row}
use Rattle.pap_types.specs.declared.kinds.NodeKind.{NodeKind}
use Rattle.pap_types.specs.declared.kinds.NodeKind.TheVariants.{Big}
use Rattle.pap_types.specs.Kinds.{kind_of, kind_of_one, kind_of_two, wider}
use Rattle.pap_types.specs.Scopes.{Scope, table_in}
use Rattle.interval_walk.specs.Ranges.{Ranges}
use Rattle.interval_walk.specs.Failures.{NodeFault, and_then, at_node}
use Rattle.interval_walk.specs.NodeRanges.{item_range, one_range, two_range}
use Rattle.interval_walk.specs.Branches.{Branches}
use Rattle.interval_walk.specs.Ranged.{ranged}
use Rattle.interval_walk.specs.Shapes.{HasShape}
use Rattle.interval_walk.proofs.Laws.{ranged_shape}
use Rattle.interval_analysis.specs.declared.expressions.Operands.{Operands}
use Rattle.interval_analysis.specs.declared.expressions.Part.{Part}
use Rattle.interval_analysis.specs.declared.expressions.Ranged.{Ranged}
use Rattle.interval_analysis.specs.declared.expressions.Stop.{Stop}
use Rattle.interval_analysis.specs.declared.expressions.Stop.TheVariants.{At, AtOne, AtTwo, Memory}
use Rattle.interval_analysis.specs.declared.expressions.Walk.{Walk}
use Rattle.pap_types.specs.private.ScopeViews.{scope_in}
use Rattle.interval_analysis.specs.private.PlanViews.{variable_in, ranges_in}
use Rattle.interval_analysis.specs.private.StopViews.{range_list}
use Rattle.interval_analysis.specs.private.ExpressionViews.{AreRanged, CanWalk, CanWalkTwo, IsPartRanged, IsRanged, OneAnswer, OwnAnswer, PartsAnswer, RangeAnswer, StopsAs, TwoAnswer, either_range, part_ranged, parts_ranged, ranged_in, second_in}

-- ---- what stops

pub stops_first : {A B : Type 0} (r : Result A NodeFault) (go : A → Result B NodeFault) (stop : Stop) → StopsAs r stop → StopsAs (and_then r go) stop
stops_first r go (At n c) h = ap (λ q. and_then q go) h
stops_first r go (AtOne n c x) h = ap (λ q. and_then q go) h
stops_first r go (AtTwo n c x y) h = ap (λ q. and_then q go) h
stops_first r go Memory h = tt

pub stops_two : {A B C : Type 0} (r : Result A NodeFault) (s : Result B NodeFault) (go : A → B → Result C NodeFault) (stop : Stop) → StopsAs (and_then r (λ _. s)) stop → StopsAs (and_then r (λ a. and_then s (go a))) stop
stops_two (Ok a) s go stop h = stops_first s (go a) stop h
stops_two (Err e) s go (At n c) h =
    let same : e ≡ record { node = n; cause = c; operands = [] } = cc in
    ap Err same
stops_two (Err e) s go (AtOne n c x) h =
    let same : e ≡ record { node = n; cause = c; operands = x ∷ [] } = cc in
    ap Err same
stops_two (Err e) s go (AtTwo n c x y) h =
    let same : e ≡ record { node = n; cause = c; operands = x ∷ y ∷ [] } = cc in
    ap Err same
stops_two (Err e) s go Memory h = tt

-- ---- what may be walked

module _ (w : Walk) (at : ℕ) where
  pub can_item : (x : List ℕ) (e : Term) → CanWalk w (item x e) at → CanWalk w e at
  can_item x e can = record { typed = can.typed.0; scales = can.scales; room = omega (arith, can.room) }

  pub can_one : (op : One) (e : Term) → CanWalk w (one op e) at → CanWalk w e at
  can_one op e can = record { typed = can.typed.0; scales = can.scales.1; room = omega (arith, can.room) }

  pub can_two : (op : Two) (e f : Term) → CanWalk w (two op e f) at → CanWalkTwo w e f at
  can_two op e f can = record {
    first = can.typed.0;
    second = can.typed.1;
    first_scales = can.scales.1;
    second_scales = can.scales.2;
    room = omega (arith, can.room);
  }

  module _ (rs : List Interval) where
    abbrev scope : Scope
    scope = scope_in w.plan.now

    abbrev env : Ranges
    env = ranges_in w.plan.now rs

    -- ---- shapes

    pub shape : (e : Term) (a : Ranged) → CanWalk w e at → IsRanged w e at rs a → HasShape a.kind a.range
    shape e a can h = subst (λ k. HasShape k a.range) (sym h.kind) (ranged_shape scope e at env a.range can.typed can.scales h.range)

    pub left_shape : (e f : Term) (o : Operands) → CanWalkTwo w e f at → AreRanged w e f at rs o → HasShape o.first.kind o.first.range
    left_shape e f o can h = subst (λ k. HasShape k o.first.range) (sym h.first.kind) (ranged_shape scope e at env o.first.range can.first can.first_scales h.first.range)

    pub right_shape : (e f : Term) (o : Operands) → CanWalkTwo w e f at → AreRanged w e f at rs o → HasShape o.second.kind o.second.range
    right_shape e f o can h = subst (λ k. HasShape k o.second.range) (sym h.second.kind) (ranged_shape scope f o.first.next env o.second.range can.second can.second_scales h.second.range)

    -- ---- answers

    answers : (t : Term) (answer : Result Interval NodeFault) (k : NodeKind) (n : ℕ) (r : Result Ranged Stop) → ranged_in w t at rs ≡ answer → k ≡ kind_of scope t → n + 1 ≡ at + nodes t → None ≡ variable_in w.plan.now t → OwnAnswer answer k n r → RangeAnswer w t at rs r
    answers t answer k n (Ok r) is kind next none h = record { range = is ∙ h.range; kind = h.kind ∙ kind; next = h.next ∙ next; variable = h.variable ∙ none }
    answers t answer k n (Err (At i c)) is kind next none h = is ∙ h
    answers t answer k n (Err (AtOne i c x)) is kind next none h = is ∙ h
    answers t answer k n (Err (AtTwo i c x y)) is kind next none h = is ∙ h
    answers t answer k n (Err Memory) is kind next none h = tt

    one_is : (op : One) (e : Term) (a : Ranged) → IsRanged w e at rs a → ranged_in w (one op e) at rs ≡ at_node a.next (a.range ∷ []) (one_range op (kind_of_one op a.kind) e a.range)
    one_is op e a h =
        ap (λ q. and_then q (λ r. at_node (at + nodes e) (r ∷ []) (one_range op (kind_of scope (one op e)) e r))) h.range
        ∙ ap₂ (λ n k. at_node n (a.range ∷ []) (one_range op (kind_of_one op k) e a.range)) (sym h.next) (sym h.kind)

    pub one_answer : (op : One) (e : Term) (a : Ranged) (r : Result Ranged Stop) → IsRanged w e at rs a → OneAnswer op e a r → RangeAnswer w (one op e) at rs r
    one_answer op e a r h own = answers (one op e) (at_node a.next (a.range ∷ []) (one_range op (kind_of_one op a.kind) e a.range)) (kind_of_one op a.kind) a.next r (one_is op e a h) (ap (kind_of_one op) h.kind) (omega (arith, h.next)) refl own

    pub item_answer : (x : List ℕ) (e : Term) (items : List Decimal) (a : Ranged) (r : Result Ranged Stop) → items ≡ table_in scope x → IsRanged w e at rs a → OwnAnswer (at_node a.next (a.range ∷ []) (item_range items a.range)) Big a.next r → RangeAnswer w (item x e) at rs r
    item_answer x e items a r is h own =
        answers (item x e) (at_node a.next (a.range ∷ []) (item_range items a.range)) Big a.next r
        (ap (λ q. and_then q (λ i. at_node (at + nodes e) (i ∷ []) (item_range (table_in scope x) i))) h.range
        ∙ ap₂ (λ n xs. at_node n (a.range ∷ []) (item_range xs a.range)) (sym h.next) (sym is))
        refl (omega (arith, h.next)) refl own

    two_is : (op : Two) (e f : Term) (o : Operands) → AreRanged w e f at rs o → ranged_in w (two op e f) at rs ≡ at_node o.second.next (o.first.range ∷ o.second.range ∷ []) (two_range scope op (kind_of_two op o.first.kind o.second.kind) f o.first.range o.second.range)
    two_is op e f o h =
        let a = o.first.range in
        let b = o.second.range in
        ap (λ q. and_then q (λ a. and_then (ranged scope f (at + nodes e) env) (λ b. at_node (at + nodes e + nodes f) (a ∷ b ∷ []) (two_range scope op (kind_of scope (two op e f)) f a b)))) h.first.range
        ∙ ap (λ q. and_then q (λ b. at_node (at + nodes e + nodes f) (a ∷ b ∷ []) (two_range scope op (kind_of scope (two op e f)) f a b))) (ap (λ n. ranged scope f n env) (sym h.first.next) ∙ h.second.range)
        ∙ ap (λ n. at_node n (a ∷ b ∷ []) (two_range scope op (kind_of scope (two op e f)) f a b)) (ap (λ n. n + nodes f) (sym h.first.next) ∙ sym h.second.next)
        ∙ ap₂ (λ j k. at_node o.second.next (a ∷ b ∷ []) (two_range scope op (kind_of_two op j k) f a b)) (sym h.first.kind) (sym h.second.kind)

    pub two_answer : (op : Two) (e f : Term) (o : Operands) (r : Result Ranged Stop) → AreRanged w e f at rs o → TwoAnswer scope op f o r → RangeAnswer w (two op e f) at rs r
    two_answer op e f o r h own =
        answers (two op e f) (at_node o.second.next (o.first.range ∷ o.second.range ∷ []) (two_range scope op (kind_of_two op o.first.kind o.second.kind) f o.first.range o.second.range)) (kind_of_two op o.first.kind o.second.kind) o.second.next r (two_is op e f o h) (ap₂ (kind_of_two op) h.first.kind h.second.kind) (omega (arith, h.first.next, h.second.next)) refl own

    -- ---- operands that stop

    pub range_err : (t : Term) (stop : Stop) (res : Result Ranged Stop) → IsErrAnd res (λ s. s ≡ stop) → StopsAs (ranged_in w t at rs) stop → RangeAnswer w t at rs res
    range_err t stop (Ok r) is h = absurd is
    range_err t stop (Err s) is h = subst (StopsAs (ranged_in w t at rs)) (sym is) h

    pub item_stops : (x : List ℕ) (e : Term) (stop : Stop) → StopsAs (ranged_in w e at rs) stop → StopsAs (ranged_in w (item x e) at rs) stop
    item_stops x e stop h = stops_first (ranged_in w e at rs) (λ i. at_node (at + nodes e) (i ∷ []) (item_range (table_in scope x) i)) stop h

    pub one_stops : (op : One) (e : Term) (stop : Stop) → StopsAs (ranged_in w e at rs) stop → StopsAs (ranged_in w (one op e) at rs) stop
    one_stops op e stop h = stops_first (ranged_in w e at rs) (λ a. at_node (at + nodes e) (a ∷ []) (one_range op (kind_of scope (one op e)) e a)) stop h

    pub two_stops : (op : Two) (e f : Term) (stop : Stop) → StopsAs (second_in w e f at rs) stop → StopsAs (ranged_in w (two op e f) at rs) stop
    two_stops op e f stop h = stops_two (ranged_in w e at rs) (ranged_in w f (at + nodes e) rs) (λ a b. at_node (at + nodes e + nodes f) (a ∷ b ∷ []) (two_range scope op (kind_of scope (two op e f)) f a b)) stop h

-- ---- the parts of a conditional

module _ (w : Walk) (t u : Term) (at : ℕ) where
  abbrev first_of : Ranges → Result Interval NodeFault
  first_of = ranged (scope_in w.plan.now) t at

  abbrev second_of : Ranges → Result Interval NodeFault
  second_of = ranged (scope_in w.plan.now) u (at + nodes t)

  abbrev last : ℕ
  last = at + nodes t + nodes u

  abbrev in_turn : Result (Option Interval) NodeFault → Result (Option Interval) NodeFault → Result Interval NodeFault
  in_turn r s = and_then r (λ x. and_then s (λ y. at_node last (range_list x y) (either_range x y)))

  only_first : (r : Result Interval NodeFault) → r ≡ in_turn (and_then r (λ a. Ok (Some a))) (Ok None)
  only_first (Ok a) = refl
  only_first (Err e) = refl

  only_second : (s : Result Interval NodeFault) → s ≡ in_turn (Ok None) (and_then s (λ b. Ok (Some b)))
  only_second (Ok b) = refl
  only_second (Err e) = refl

  both_parts : (r s : Result Interval NodeFault) → and_then r (λ a. and_then s (λ b. at_node last (a ∷ b ∷ []) (join_row a b))) ≡ in_turn (and_then r (λ a. Ok (Some a))) (and_then s (λ b. Ok (Some b)))
  both_parts (Ok a) (Ok b) = refl
  both_parts (Ok a) (Err e) = refl
  both_parts (Err e) s = refl

  -- the parts one after the other
  parts_are : (h k : Option Ranges) → parts_ranged w t u at (record { holds = h; fails = k }) ≡ in_turn (part_ranged w t at h) (part_ranged w u (at + nodes t) k)
  parts_are None None = refl
  parts_are (Some e) None = only_first (first_of e)
  parts_are None (Some f) = only_second (second_of f)
  parts_are (Some e) (Some f) = both_parts (first_of e) (second_of f)

  pub parts_err : (br : Branches) (stop : Stop) (res : Result Ranged Stop) → IsErrAnd res (λ s. s ≡ stop) → StopsAs (parts_ranged w t u at br) stop → PartsAnswer w t u at br res
  parts_err br stop (Ok r) is h = absurd is
  parts_err br stop (Err s) is h = subst (StopsAs (parts_ranged w t u at br)) (sym is) h

  pub first_stops : (br : Branches) (stop : Stop) → StopsAs (part_ranged w t at br.holds) stop → StopsAs (parts_ranged w t u at br) stop
  first_stops br stop h =
      subst (λ q. StopsAs q stop) (sym (parts_are br.holds br.fails))
      (stops_first (part_ranged w t at br.holds) (λ x. and_then (part_ranged w u (at + nodes t) br.fails) (λ y. at_node last (range_list x y) (either_range x y))) stop h)

  module _ (br : Branches) (one : Part) (first : IsPartRanged w t at br.holds one) where
    then_other : parts_ranged w t u at br ≡ and_then (part_ranged w u one.next br.fails) (λ y. at_node last (range_list one.range y) (either_range one.range y))
    then_other =
        parts_are br.holds br.fails
        ∙ ap (λ r. in_turn r (part_ranged w u (at + nodes t) br.fails)) first.range
        ∙ ap (λ n. and_then (part_ranged w u n br.fails) (λ y. at_node last (range_list one.range y) (either_range one.range y))) (sym first.next)

    pub second_stops : (stop : Stop) → StopsAs (part_ranged w u one.next br.fails) stop → StopsAs (parts_ranged w t u at br) stop
    second_stops stop h = subst (λ q. StopsAs q stop) (sym then_other) (stops_first (part_ranged w u one.next br.fails) (λ y. at_node last (range_list one.range y) (either_range one.range y)) stop h)

    pub parts_answer : (other : Part) (r : Result Ranged Stop) → IsPartRanged w u one.next br.fails other → OwnAnswer (at_node other.next (range_list one.range other.range) (either_range one.range other.range)) (wider one.kind other.kind) other.next r → PartsAnswer w t u at br r
    parts_answer other r second own = by r own
      where
        is : parts_ranged w t u at br ≡ at_node other.next (range_list one.range other.range) (either_range one.range other.range)
        is =
            then_other
            ∙ ap (λ q. and_then q (λ y. at_node last (range_list one.range y) (either_range one.range y))) second.range
            ∙ ap (λ n. at_node n (range_list one.range other.range) (either_range one.range other.range)) (ap (λ n. n + nodes u) (sym first.next) ∙ sym second.next)

        by : (r : Result Ranged Stop) → OwnAnswer (at_node other.next (range_list one.range other.range) (either_range one.range other.range)) (wider one.kind other.kind) other.next r → PartsAnswer w t u at br r
        by (Ok r) own = record {
          range = is ∙ own.range;
          kind = own.kind ∙ ap₂ wider first.kind second.kind;
          next = own.next ∙ ap (λ n. n + 1) (second.next ∙ ap (λ n. n + nodes u) first.next);
          variable = own.variable;
        }
        by (Err (At i c)) own = is ∙ own
        by (Err (AtOne i c x)) own = is ∙ own
        by (Err (AtTwo i c x y)) own = is ∙ own
        by (Err Memory) own = tt
