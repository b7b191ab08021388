-- What private contracts say of tests.
use Rattle.std.specs.Prelude.{[], ◌∷◌, ◌≡◌, ℕ, ℤ, pos, ◌+◌, ◌&&◌, Bool, true, false, List, is_some, Result, Ok, Err, IsFalse}
use Rattle.std.specs.Option.{option_map}
use Rattle.scaled_decimal.specs.WholeNumbers.{whole_decimal}
use Rattle.pap_tree.specs.declared.expression.Expr.{Expr}
use Rattle.pap_tree.specs.declared.expression.Binary.{Binary}
use Rattle.pap_tree.specs.declared.expression.Call.TheVariants.{CompareTo}
use Rattle.pap_tree.specs.Term.{Term, term_of, leaf, two, whole, method}
use Rattle.pap_tree.specs.Numbering.{nodes}
use Rattle.interval_num.specs.Intervals.{Interval}
use Rattle.interval_num.specs.Rows.{comparison_row}
use Rattle.pap_types.specs.declared.kinds.NodeKind.TheVariants.{Int}
use Rattle.pap_types.specs.Kinds.{int_literal, is_whole}
use Rattle.interval_walk.specs.Ranges.{Ranges, single}
use Rattle.interval_walk.specs.Failures.{NodeFault, and_then, at_node}
use Rattle.interval_walk.specs.NodeRanges.{comparison_range, read_range}
use Rattle.interval_walk.specs.Branches as meant
use Rattle.interval_walk.specs.Ranged.{ranged, tested, are_whole, compare_sides}
use Rattle.interval_walk.specs.Shapes.{HasShape}
use Rattle.pap_tree.specs.declared.plan.PlanText.{PlanText}
use Rattle.interval_analysis.specs.declared.comparisons.Compared.{Compared}
use Rattle.interval_analysis.specs.declared.conditions.Inner.{Inner}
use Rattle.interval_analysis.specs.declared.conditions.Tested.{Tested}
use Rattle.interval_analysis.specs.declared.expressions.Operands.{Operands}
use Rattle.interval_analysis.specs.declared.expressions.Stop.{Stop}
use Rattle.interval_analysis.specs.declared.expressions.Walk.{Walk}
use Rattle.pap_types.specs.private.ScopeViews.{scope_in}
use Rattle.interval_analysis.specs.private.PlanViews.{ranges_in, branches_in}
use Rattle.interval_analysis.specs.private.ComparisonViews.{CanCompare, CanRefine, Ways, sides_of, branches_by}
use Rattle.interval_analysis.specs.private.ExpressionViews.{StopsAs}

-- the branches of a test from ranges by number, and the number behind its nodes
pub record IsTestedAs (w : Walk) (r : Result meant.Branches NodeFault) (end : ℕ) (rs : List Interval) (t : Tested) : Type 0 where
  pub branches : r ≡ Ok (branches_in w.plan.now rs t.branches)
  pub next : t.next ≡ end

abbrev pub TestsAs : Walk → Result meant.Branches NodeFault → ℕ → List Interval → Result Tested Stop → Type 0
TestsAs w r end rs (Ok t) = IsTestedAs w r end rs t
TestsAs w r end rs (Err stop) = StopsAs r stop

-- the definition, from ranges by number
abbrev pub tested_in : Walk → Term → ℕ → List Interval → Result meant.Branches NodeFault
tested_in w t at rs = tested (scope_in w.plan.now) t at (ranges_in w.plan.now rs)

abbrev pub TestAnswer : Walk → Term → ℕ → List Interval → Result Tested Stop → Type 0
TestAnswer w t at rs r = TestsAs w (tested_in w t at rs) (at + nodes t) rs r

-- ---- comparisons

pub record Comparison : Type 0 where
  pub op : Binary
  pub left : Term
  pub right : Term

abbrev pub comparison : Binary → Term → Term → Comparison
comparison op e f = record { op = op; left = e; right = f }

abbrev pub comparison_of : Binary → Expr → Expr → Comparison
comparison_of op e f = comparison op (term_of e) (term_of f)

-- the branches of a comparison, by the definition's last case
abbrev pub comparison_in : Walk → Comparison → ℕ → Ranges → Result meant.Branches NodeFault
comparison_in w c at env =
    let scope = scope_in w.plan.now in
    let e = c.left in
    let f = c.right in
    and_then (ranged scope e at env) (λ a.
    and_then (ranged scope f (at + nodes e) env) (λ b.
    and_then (at_node (at + nodes e + nodes f) (a ∷ b ∷ []) (comparison_range c.op a b)) (λ r.
    Ok (meant.compared c.op (are_whole scope e f) (meant.sides e f a b) (compare_sides scope e at env) (int_literal f) env))))

abbrev pub ComparisonAnswer : Walk → Comparison → ℕ → List Interval → Result Tested Stop → Type 0
ComparisonAnswer w c at rs r =
    TestsAs w (comparison_in w c at (ranges_in w.plan.now rs)) (at + nodes c.left + nodes c.right + 1) rs r

abbrev pub is_compare_to : Term → Bool
is_compare_to (two (method CompareTo) e f) = true
is_compare_to _ = false

-- no compareTo that is compared with an `int` literal
abbrev pub IsPlainComparison : Term → Term → Type 0
IsPlainComparison e f = IsFalse (is_compare_to e && is_some (int_literal f))

-- the sides of a compareTo and the `int` literal that it is compared with
pub record IsInner (e f : Term) (i : Inner) : Type 0 where
  pub left : e ≡ two (method CompareTo) (term_of i.left.now) (term_of i.right.now)
  pub right : f ≡ leaf (whole i.number)

-- ---- sides that can't fail

-- their ranges have the shapes of their kinds
pub record HaveShapes (o : Operands) : Type 0 where
  pub left : HasShape o.first.kind o.first.range
  pub right : HasShape o.second.kind o.second.range

-- branches by the numbers of the variables, from each ranges that these have
abbrev pub WaysFrom : Type 0
WaysFrom = List Interval → Result Ways NodeFault

-- what is compared: the operands, which may be refined by each other, and the number behind its nodes
pub record IsComparedAs (r : WaysFrom) (end : ℕ) (o : Operands) (d : Compared) : Type 0 where
  pub branches : (rs : List Interval) → r rs ≡ Ok (branches_by d.sides d.allowed rs)
  pub sides : d.sides ≡ sides_of o d.sides.whole
  pub refines : CanRefine d.sides.whole o.first.range o.second.range
  pub next : d.next ≡ end

abbrev pub ComparesAs : WaysFrom → ℕ → Operands → Result Compared Stop → Type 0
ComparesAs r end o (Ok d) = IsComparedAs r end o d
ComparesAs r end o (Err stop) = (rs : List Interval) → StopsAs (r rs) stop

-- a comparison of two sides
abbrev pub sides_compared : Binary → Operands → WaysFrom
sides_compared op o rs =
    and_then (at_node o.second.next (o.first.range ∷ o.second.range ∷ []) (comparison_range op o.first.range o.second.range)) (λ _.
    Ok (branches_by (sides_of o (is_whole o.first.kind && is_whole o.second.kind)) (meant.signs_where op (pos 0)) rs))

-- the nodes of a compareTo, of a number, and of a comparison of both
abbrev pub order_node : Binary → ℤ → Interval → Interval → ℕ → Result Interval NodeFault
order_node op k a b at =
    and_then (at_node at (a ∷ b ∷ []) (comparison_row a b)) (λ c.
    and_then (at_node (at + 1) [] (read_range Int (single (whole_decimal k)))) (λ l.
    at_node (at + 2) (c ∷ l ∷ []) (comparison_range op c l)))

pub record IsPassed (r : Result Interval NodeFault) (end n : ℕ) : Type 0 where
  pub range : Interval
  pub passes : r ≡ Ok range
  pub next : n ≡ end

abbrev pub OrderAnswer : Binary → ℤ → Interval → Interval → ℕ → Result ℕ Stop → Type 0
OrderAnswer op k a b at (Ok n) = IsPassed (order_node op k a b at) (at + 3) n
OrderAnswer op k a b at (Err stop) = StopsAs (order_node op k a b at) stop

-- a comparison of their compareTo with a number
abbrev pub order_compared : Binary → ℤ → Operands → WaysFrom
order_compared op k o rs =
    and_then (order_node op k o.first.range o.second.range o.second.next) (λ _.
    Ok (branches_by (sides_of o false) (meant.signs_where op k) rs))

-- ---- what is compared

-- branches by name
abbrev pub named_ways : PlanText → Ways → meant.Branches
named_ways p ways = record { holds = option_map (ranges_in p) ways.holds; fails = option_map (ranges_in p) ways.fails }

-- the branches of a comparison are those of its sides, which may be compared
pub record IsCompared (w : Walk) (c : Comparison) (at : ℕ) (rs : List Interval) (d : Compared) : Type 0 where
  pub branches : comparison_in w c at (ranges_in w.plan.now rs) ≡ Ok (named_ways w.plan.now (branches_by d.sides d.allowed rs))
  pub can : CanCompare d.sides rs
  pub next : d.next ≡ at + nodes c.left + nodes c.right + 1

abbrev pub ComparedAnswer : Walk → Comparison → ℕ → List Interval → Result Compared Stop → Type 0
ComparedAnswer w c at rs (Ok d) = IsCompared w c at rs d
ComparedAnswer w c at rs (Err stop) = StopsAs (comparison_in w c at (ranges_in w.plan.now rs)) stop
