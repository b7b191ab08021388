-- What private contracts say of the walk of statements.
use Rattle.std.specs.Prelude.{◌≡◌, ℕ, ◌+◌, ◌≤◌, ◌<◌, ◌^◌, List, [], ◌∷◌, Some, Result, Ok, Err, ⊤}
use Rattle.pap_tree.specs.declared.declaration.Kind.{Kind}
use Rattle.pap_tree.specs.declared.declaration.Kind.TheVariants.{Factor}
use Rattle.pap_tree.specs.declared.plan.PlanText.{PlanText}
use Rattle.pap_tree.specs.declared.expression.Expr.{Expr}
use Rattle.pap_tree.specs.declared.plan.Stmt.{Stmt}
use Rattle.pap_tree.specs.Term.{term_of}
use Rattle.pap_tree.specs.Declarations.{Declaration}
use Rattle.pap_tree.specs.Flowchart.{Body, body_of}
use Rattle.pap_tree.specs.Statements.{written}
use Rattle.interval_num.specs.declared.cause.RangeCause.{RangeCause}
use Rattle.interval_num.specs.declared.cause.RangeCause.TheVariants.{Wide}
use Rattle.interval_num.specs.Intervals.{Interval, HasKeptEnds}
use Rattle.interval_num.specs.Alignment.{at_scale}
use Rattle.interval_num.specs.Rows.{join_row}
use Rattle.pap_types.specs.Checks.{place}
use Rattle.pap_types.specs.Counts.{AreSmallTerms, IsSmallTerm}
use Rattle.pap_types.specs.Scopes.{declared_as, factor_places}
use Rattle.pap_types.specs.Typing.{IsTypedTerm, IsTypedBody, TargetSuits}
use Rattle.interval_walk.specs.Ranges.{Ranges}
use Rattle.interval_walk.specs.Failures.{WalkFault, node_fails, and_then, at_node, at_stmt}
use Rattle.interval_walk.specs.Branches.{Branches, either_way}
use Rattle.interval_walk.specs.Ranged.{ranged}
use Rattle.interval_walk.specs.Walked.{RangeCalls, walked, range_calls_of, assigned_range, joined}
use Rattle.pap_tree.specs.private.TreeViews.{methods_in, if_of}
use Rattle.interval_analysis.specs.declared.expressions.Walk.{Walk}
use Rattle.interval_analysis.specs.declared.statements.Fork.{Fork}
use Rattle.interval_analysis.specs.declared.statements.Spot.{Spot}
use Rattle.interval_analysis.specs.declared.stop.WalkStop.{WalkStop}
use Rattle.pap_types.specs.private.ScopeViews.{scope_in}
use Rattle.interval_analysis.specs.private.PlanViews.{ranges_in}
use Rattle.interval_analysis.specs.private.StopViews.{FaultOf}

-- ---- the definition, for the plan of a walk, from ranges by number

-- what methods make of the ranges, whose chains have at most so many
abbrev pub calls_in : Walk → ℕ → RangeCalls
calls_in w chain = range_calls_of (scope_in w.plan.now) (methods_in w.plan.now) chain

-- the walk of statements, the first of which stands there
abbrev pub walked_in : Walk → Spot → Body → List Interval → Result Ranges WalkFault
walked_in w spot b rs =
    walked (scope_in w.plan.now) (calls_in w spot.chain) spot.method spot.at b (ranges_in w.plan.now rs)

-- the walk of a method's body
abbrev pub executed : Walk → List ℕ → ℕ → List Interval → Result Ranges WalkFault
executed w m chain rs = calls_in w chain m (ranges_in w.plan.now rs)

-- the variables after an assignment
abbrev pub assigned_in : PlanText → List ℕ → Interval → List Interval → Ranges
assigned_in p x a rs = assigned_range (scope_in p) x a (ranges_in p rs)

-- the walk of an assignment
abbrev pub evaluated : Walk → Spot → List ℕ → Expr → List Interval → Result Ranges WalkFault
evaluated w spot x e rs =
    and_then
    (at_stmt spot.method spot.at (ranged (scope_in w.plan.now) (term_of e) 0 (ranges_in w.plan.now rs)))
    (λ a. Ok (assigned_in w.plan.now x a rs))

-- where the lists of an IF stand, and where they end
abbrev pub first_spot : Spot → Spot
first_spot spot = record spot { at = spot.at + 1 }

abbrev pub second_spot : Spot → Fork → Spot
second_spot spot f = record spot { at = spot.at + 1 + written (body_of f.yes.now) }

abbrev pub end_of : Spot → Fork → ℕ
end_of spot f = spot.at + 1 + written (body_of f.yes.now) + written (body_of f.no.now)

-- both lists, the first from some ranges and the second from others, which are joined at the root of the test
abbrev pub met_in : Walk → Spot → Fork → List Interval → List Interval → Result Ranges WalkFault
met_in w spot f rs ss =
    and_then (walked_in w (first_spot spot) (body_of f.yes.now) rs) (λ x.
    and_then (walked_in w (second_spot spot f) (body_of f.no.now) ss) (λ y.
    at_stmt spot.method spot.at (at_node f.root [] (joined x y))))

-- the lists of an IF, where its test has these branches
abbrev pub forked_in : Walk → Spot → Fork → Branches → Result Ranges WalkFault
forked_in w spot f br =
    either_way
    (node_fails (place spot.method spot.at f.root) Wide [])
    (walked (scope_in w.plan.now) (calls_in w spot.chain) spot.method (spot.at + 1) (body_of f.yes.now))
    (walked (scope_in w.plan.now) (calls_in w spot.chain) spot.method (spot.at + 1 + written (body_of f.yes.now)) (body_of f.no.now))
    (λ x y. at_stmt spot.method spot.at (at_node f.root [] (joined x y)))
    br.holds
    br.fails

-- ---- what may be walked

pub record CanWalkBody (w : Walk) (b : Body) (at : ℕ) : Type 0 where
  pub typed : IsTypedBody (scope_in w.plan.now) (methods_in w.plan.now) b
  pub small : AreSmallTerms b
  pub room : at + written b < 2 ^ 32

-- both lists of an IF
pub record CanWalkLists (w : Walk) (spot : Spot) (f : Fork) : Type 0 where
  pub first : IsTypedBody (scope_in w.plan.now) (methods_in w.plan.now) (body_of f.yes.now)
  pub second : IsTypedBody (scope_in w.plan.now) (methods_in w.plan.now) (body_of f.no.now)
  pub first_small : AreSmallTerms (body_of f.yes.now)
  pub second_small : AreSmallTerms (body_of f.no.now)
  pub room : end_of spot f < 2 ^ 32

pub record CanAssign (w : Walk) (x : List ℕ) (e : Expr) : Type 0 where
  pub typed : IsTypedTerm (scope_in w.plan.now) (term_of e)
  pub target : TargetSuits (scope_in w.plan.now) x (term_of e)
  pub small : IsSmallTerm (term_of e)

-- a `double` has at most three places, and its ends at three places are within the limit
pub record FitsFactor (a : Interval) : Type 0 where
  pub places : a.s_hi ≤ factor_places
  pub ends : HasKeptEnds (at_scale factor_places a)

abbrev pub CanKeep : Kind → Interval → Type 0
CanKeep Factor a = FitsFactor a
CanKeep _ a = ⊤

abbrev pub CanPut : PlanText → List ℕ → Interval → Type 0
CanPut p x a = (d : Declaration) → declared_as (scope_in p).variables x ≡ Some d → CanKeep d.kind a

-- the body of a method of a plan
pub record IsMethodBody (p : PlanText) (b : Body) : Type 0 where
  pub typed : IsTypedBody (scope_in p) (methods_in p) b
  pub small : AreSmallTerms b
  pub count : written b < 2 ^ 32

-- ---- what is answered; memory is free

-- the ranges behind what is walked
abbrev pub EnvAnswer : Walk → Result Ranges WalkFault → List Interval → Result (Unit {0}) WalkStop → Type 0
EnvAnswer w r new (Ok u) = r ≡ Ok (ranges_in w.plan.now new)
EnvAnswer w r new (Err f) = FaultOf r f

-- A walk through statements of a plan by the definition: the ranges behind them, and the number of the statement there.
pub record Passage : Type 0 where
  pub plan : PlanText
  pub ranges : Result Ranges WalkFault
  pub next : ℕ

-- these are the ranges and the number behind the statements
abbrev pub Passes : Passage → List Interval → Result ℕ WalkStop → Type 0
Passes p new (Ok next) = (p.ranges ≡ Ok (ranges_in p.plan new)) × (next ≡ p.next)
Passes p new (Err f) = FaultOf p.ranges f

abbrev pub through_body : Walk → Spot → Body → List Interval → Passage
through_body w spot b rs = record {
  plan = w.plan.now;
  ranges = walked_in w spot b rs;
  next = spot.at + written b;
}

abbrev pub through_if : Walk → Spot → Expr → List Stmt → List Stmt → List Interval → Passage
through_if w spot t ys ns rs = record {
  plan = w.plan.now;
  ranges = walked_in w spot (if_of t ys ns) rs;
  next = spot.at + 1 + written (body_of ys) + written (body_of ns);
}

abbrev pub through_fork : Walk → Spot → Fork → Branches → Passage
through_fork w spot f br = record { plan = w.plan.now; ranges = forked_in w spot f br; next = end_of spot f }

-- through one list of an IF, past the other
abbrev pub through_first : Walk → Spot → Fork → List Interval → Passage
through_first w spot f rs = record {
  plan = w.plan.now;
  ranges = walked_in w (first_spot spot) (body_of f.yes.now) rs;
  next = end_of spot f;
}

abbrev pub through_second : Walk → Spot → Fork → List Interval → Passage
through_second w spot f rs = record {
  plan = w.plan.now;
  ranges = walked_in w (second_spot spot f) (body_of f.no.now) rs;
  next = end_of spot f;
}

-- through both, each from its own ranges
abbrev pub through_both : Walk → Spot → Fork → List Interval → List Interval → Passage
through_both w spot f rs ss = record { plan = w.plan.now; ranges = met_in w spot f rs ss; next = end_of spot f }

-- ---- where two branches meet

-- ranges joined by number
abbrev pub joined_lists : List Interval → List Interval → Result (List Interval) RangeCause
joined_lists [] ss = Ok []
joined_lists (r ∷ rs) [] = Err Wide
joined_lists (r ∷ rs) (s ∷ ss) = and_then (join_row r s) (λ a. and_then (joined_lists rs ss) (λ rest. Ok (a ∷ rest)))
