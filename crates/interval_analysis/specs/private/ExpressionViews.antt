-- What private contracts say of the walk of expressions.
use Rattle.std.specs.Prelude.{◌≡◌, ℕ, ◌+◌, ◌<◌, ◌^◌, List, [], ◌∷◌, Option, Some, None, Result, Ok, Err, ⊤}
use Rattle.pap_tree.specs.Term.{Term, One, Two}
use Rattle.pap_tree.specs.Numbering.{nodes}
use Rattle.pap_tree.specs.Scales.{KeepsScales}
use Rattle.interval_num.specs.declared.cause.RangeCause.TheVariants.{Wide}
use Rattle.interval_num.specs.Intervals.{Interval}
use Rattle.interval_num.specs.Rows.{RowAnswer, join_row}
use Rattle.pap_types.specs.declared.kinds.NodeKind.{NodeKind}
use Rattle.pap_types.specs.Kinds.{kind_of, kind_of_one, kind_of_two, wider}
use Rattle.pap_types.specs.Scopes.{Scope}
use Rattle.pap_types.specs.Typing.{IsTypedTerm}
use Rattle.interval_walk.specs.Ranges.{Ranges}
use Rattle.interval_walk.specs.Failures.{NodeFault, and_then, at_node, nowhere}
use Rattle.interval_walk.specs.NodeRanges.{one_range, two_range}
use Rattle.interval_walk.specs.Branches as meant
use Rattle.interval_walk.specs.Ranged.{ranged}
use Rattle.interval_analysis.specs.declared.expressions.Operands.{Operands}
use Rattle.interval_analysis.specs.declared.expressions.Part.{Part}
use Rattle.interval_analysis.specs.declared.expressions.Ranged.{Ranged}
use Rattle.interval_analysis.specs.declared.expressions.Stop.{Stop}
use Rattle.interval_analysis.specs.declared.expressions.Stop.TheVariants.{At, AtOne, AtTwo, Memory}
use Rattle.interval_analysis.specs.declared.expressions.Walk.{Walk}
use Rattle.pap_types.specs.private.ScopeViews.{scope_in}
use Rattle.interval_analysis.specs.private.PlanViews.{variable_in, ranges_in}

-- ---- what may be walked

-- an expression may be walked whose nodes are numbered from `at`
pub record CanWalk (w : Walk) (t : Term) (at : ℕ) : Type 0 where
  pub typed : IsTypedTerm (scope_in w.plan.now) t
  pub scales : KeepsScales t
  pub room : at + nodes t < 2 ^ 32

-- so may two, the second of which is numbered behind the first
pub record CanWalkTwo (w : Walk) (t u : Term) (at : ℕ) : Type 0 where
  pub first : IsTypedTerm (scope_in w.plan.now) t
  pub second : IsTypedTerm (scope_in w.plan.now) u
  pub first_scales : KeepsScales t
  pub second_scales : KeepsScales u
  pub room : at + nodes t + nodes u < 2 ^ 32

-- so may the two parts of a conditional, which is numbered behind them
pub record CanWalkParts (w : Walk) (t u : Term) (at : ℕ) : Type 0 where
  pub first : IsTypedTerm (scope_in w.plan.now) t
  pub second : IsTypedTerm (scope_in w.plan.now) u
  pub first_scales : KeepsScales t
  pub second_scales : KeepsScales u
  pub room : at + nodes t + nodes u + 1 < 2 ^ 32

-- ---- what is answered

-- an answer, or the node where it fails; memory is free
abbrev pub StopsAs : {A : Type 0} → Result A NodeFault → Stop → Type 0
StopsAs r (At n c) = r ≡ Err (record { node = n; cause = c; operands = [] })
StopsAs r (AtOne n c a) = r ≡ Err (record { node = n; cause = c; operands = a ∷ [] })
StopsAs r (AtTwo n c a b) = r ≡ Err (record { node = n; cause = c; operands = a ∷ b ∷ [] })
StopsAs r Memory = ⊤

-- the definition, from ranges by number
abbrev pub ranged_in : Walk → Term → ℕ → List Interval → Result Interval NodeFault
ranged_in w t at rs = ranged (scope_in w.plan.now) t at (ranges_in w.plan.now rs)

-- what is known of an expression: its range, its kind, the number behind its nodes, and that of the variable that it names
pub record IsRanged (w : Walk) (t : Term) (at : ℕ) (rs : List Interval) (r : Ranged) : Type 0 where
  pub range : ranged_in w t at rs ≡ Ok r.range
  pub kind : r.kind ≡ kind_of (scope_in w.plan.now) t
  pub next : r.next ≡ at + nodes t
  pub variable : r.variable ≡ variable_in w.plan.now t

abbrev pub RangeAnswer : Walk → Term → ℕ → List Interval → Result Ranged Stop → Type 0
RangeAnswer w t at rs (Ok r) = IsRanged w t at rs r
RangeAnswer w t at rs (Err stop) = StopsAs (ranged_in w t at rs) stop

-- the same of two, or the first node of both that may fail
pub record AreRanged (w : Walk) (t u : Term) (at : ℕ) (rs : List Interval) (o : Operands) : Type 0 where
  pub first : IsRanged w t at rs o.first
  pub second : IsRanged w u o.first.next rs o.second

abbrev pub second_in : Walk → Term → Term → ℕ → List Interval → Result Interval NodeFault
second_in w t u at rs = and_then (ranged_in w t at rs) (λ _. ranged_in w u (at + nodes t) rs)

abbrev pub OperandsAnswer : Walk → Term → Term → ℕ → List Interval → Result Operands Stop → Type 0
OperandsAnswer w t u at rs (Ok o) = AreRanged w t u at rs o
OperandsAnswer w t u at rs (Err stop) = StopsAs (second_in w t u at rs) stop

-- the same of a node by what its operation answers there, and by the number of the variable that it names
pub record IsNode (number : Option ℕ) (answer : Result Interval NodeFault) (k : NodeKind) (at : ℕ) (r : Ranged) : Type 0 where
  pub range : answer ≡ Ok r.range
  pub kind : r.kind ≡ k
  pub next : r.next ≡ at + 1
  pub variable : r.variable ≡ number

abbrev pub NodeAnswer : Option ℕ → Result Interval NodeFault → NodeKind → ℕ → Result Ranged Stop → Type 0
NodeAnswer number answer k at (Ok r) = IsNode number answer k at r
NodeAnswer number answer k at (Err stop) = StopsAs answer stop

-- that of a node that is no name
abbrev pub OwnAnswer : Result Interval NodeFault → NodeKind → ℕ → Result Ranged Stop → Type 0
OwnAnswer answer k at r = NodeAnswer None answer k at r

-- that of an operation on one operand, and on two, the right one being f
abbrev pub OneAnswer : One → Term → Ranged → Result Ranged Stop → Type 0
OneAnswer op e a r =
    OwnAnswer
    (at_node a.next (a.range ∷ []) (one_range op (kind_of_one op a.kind) e a.range))
    (kind_of_one op a.kind)
    a.next
    r

abbrev pub TwoAnswer : Scope → Two → Term → Operands → Result Ranged Stop → Type 0
TwoAnswer scope op f o r =
    OwnAnswer
    (at_node o.second.next (o.first.range ∷ o.second.range ∷ [])
    (two_range scope op (kind_of_two op o.first.kind o.second.kind) f o.first.range o.second.range))
    (kind_of_two op o.first.kind o.second.kind)
    o.second.next
    r

-- ---- the parts of a conditional

-- the range of a part where its branch leads there
abbrev pub part_ranged : Walk → Term → ℕ → Option Ranges → Result (Option Interval) NodeFault
part_ranged w t at None = Ok None
part_ranged w t at (Some env) = and_then (ranged (scope_in w.plan.now) t at env) (λ a. Ok (Some a))

pub record IsPartRanged (w : Walk) (t : Term) (at : ℕ) (o : Option Ranges) (p : Part) : Type 0 where
  pub range : part_ranged w t at o ≡ Ok p.range
  pub kind : p.kind ≡ kind_of (scope_in w.plan.now) t
  pub next : p.next ≡ at + nodes t

abbrev pub PartAnswer : Walk → Term → ℕ → Option Ranges → Result Part Stop → Type 0
PartAnswer w t at o (Ok p) = IsPartRanged w t at o p
PartAnswer w t at o (Err stop) = StopsAs (part_ranged w t at o) stop

-- the range of what can be reached of two parts
abbrev pub either_range : Option Interval → Option Interval → RowAnswer
either_range None None = Err Wide
either_range (Some a) None = Ok a
either_range None (Some b) = Ok b
either_range (Some a) (Some b) = join_row a b

-- both parts, where the test has these branches
abbrev pub parts_ranged : Walk → Term → Term → ℕ → meant.Branches → Result Interval NodeFault
parts_ranged w t u at br =
    meant.either_way
    (nowhere (at + nodes t + nodes u))
    (ranged (scope_in w.plan.now) t at)
    (ranged (scope_in w.plan.now) u (at + nodes t))
    (λ a b. at_node (at + nodes t + nodes u) (a ∷ b ∷ []) (join_row a b))
    br.holds
    br.fails

pub record ArePartsRanged (w : Walk) (t u : Term) (at : ℕ) (br : meant.Branches) (r : Ranged) : Type 0 where
  pub range : parts_ranged w t u at br ≡ Ok r.range
  pub kind : r.kind ≡ wider (kind_of (scope_in w.plan.now) t) (kind_of (scope_in w.plan.now) u)
  pub next : r.next ≡ at + nodes t + nodes u + 1
  pub variable : r.variable ≡ None

abbrev pub PartsAnswer : Walk → Term → Term → ℕ → meant.Branches → Result Ranged Stop → Type 0
PartsAnswer w t u at br (Ok r) = ArePartsRanged w t u at br r
PartsAnswer w t u at br (Err stop) = StopsAs (parts_ranged w t u at br) stop
