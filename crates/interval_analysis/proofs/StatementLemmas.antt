-- Steps of the walk of statements.
use Rattle.std.proofs.Common.{◌≡◌, ℕ, zero, suc, ◌+◌, ◌-◌, ◌≢◌, List, [], length, Some, None, Result, Ok, Err, refl, sym, ap, ◌∙◌, subst, arith}
use Rattle.pap_tree.specs.declared.plan.Stmt.{Stmt, Eval, If', Execute}
use Rattle.pap_tree.specs.Term.{term_of}
use Rattle.pap_tree.specs.Flowchart.{Body, done, body_of, body_of_row, stmt_then, Routine}
use Rattle.pap_tree.specs.Statements.{written}
use Rattle.interval_num.specs.declared.cause.RangeCause.TheVariants.{Wide}
use Rattle.pap_types.specs.Checks.{place, last_node}
use Rattle.pap_types.specs.Routines.{body_named}
use Rattle.pap_types.specs.Scopes.{Scope}
use Rattle.interval_walk.specs.Ranges.{Ranges}
use Rattle.interval_walk.specs.Failures.{WalkFault, node_fails, and_then, at_node, at_stmt}
use Rattle.interval_walk.specs.Branches as meant
use Rattle.interval_walk.specs.Branches.{either_way}
use Rattle.interval_walk.specs.Ranged.{ranged, tested}
use Rattle.interval_analysis.specs.declared.expressions.Walk.{Walk}
use Rattle.interval_analysis.specs.declared.stop.WalkStop.{WalkStop}
use Rattle.interval_analysis.specs.declared.stop.WalkStop.TheVariants as walks
use Rattle.interval_analysis.specs.private.StopViews.{FaultOf, StopsAt, IsBehindLists}
use Rattle.interval_analysis.proofs.StopLemmas.{fault_through}
use Rattle.pap_types.specs.private.ScopeViews.{scope_in, variables_in}
use Rattle.interval_analysis.specs.private.PlanViews.{IsSized, ranges_after, with_names, ranges_in, branches_in}
use Rattle.pap_tree.specs.private.TreeViews.{if_of}
use Rattle.interval_analysis.specs.private.StatementViews.{through_body, through_if, through_fork, end_of}
use Rattle.pap_tree.specs.declared.expression.Expr.{Expr}
use Rattle.interval_analysis.specs.declared.branches.Branches.{Branches}
use Rattle.interval_analysis.specs.declared.expressions.Stop.{Stop}
use Rattle.interval_analysis.specs.declared.expressions.Stop.TheVariants as stops
use Rattle.interval_analysis.specs.private.TestViews.{tested_in}
use Rattle.interval_analysis.specs.private.Meetings.{MeetsAnswer}
use Rattle.interval_analysis.proofs.MeetLemmas.{joined_by_name, joined_either}
use Rattle.std.specs.Result.{IsErrAnd}
use Rattle.pap_tree.specs.declared.plan.PlanText.{PlanText}
use Rattle.interval_num.specs.declared.cause.RangeCause.{RangeCause}
use Rattle.interval_num.specs.Intervals.{Interval}
use Rattle.interval_analysis.specs.declared.statements.Fork.{Fork}
use Rattle.interval_analysis.specs.declared.statements.Spot.{Spot}
use Rattle.interval_analysis.specs.private.StatementViews.{calls_in, walked_in, met_in, forked_in, first_spot, second_spot, joined_lists, EnvAnswer, Passage, Passes}
use Rattle.interval_walk.specs.Walked.{RangeCalls, walked, range_calls_of, with_body, joined}

assoc : {A B C E : Type 0} (r : Result A E) (f : A → Result B E) (g : B → Result C E) → and_then r (λ a. and_then (f a) g) ≡ and_then (and_then r f) g
assoc (Ok a) f g = refl
assoc (Err e) f g = refl

-- a step that changes nothing
pub and_then-Ok : {A E : Type 0} (r : Result A E) → and_then r (λ a. Ok a) ≡ r
and_then-Ok (Ok a) = refl
and_then-Ok (Err e) = refl

module _ (scope : Scope) (call : RangeCalls) (name : List ℕ) where
  -- a statement, and then those behind it
  pub walked_then : (s : Stmt) (rest : Body) (at : ℕ) (env : Ranges) → walked scope call name at (stmt_then s rest) env ≡ and_then (walked scope call name at (stmt_then s done) env) (walked scope call name (at + written (stmt_then s done)) rest)
  walked_then (Eval x e) rest at env = assoc (at_stmt name at (ranged scope (term_of e) 0 env)) _ (walked scope call name (at + 1) rest)
  walked_then (If' t m ys n zs) rest at env =
      let a = body_of_row ys in
      let b = body_of_row zs in
      let count : at + 1 + written a + written b ≡ at + (1 + written a + written b + 0) = omega arith in
      let r = at_stmt name at (tested scope (term_of t) 0 env) in
      let both = λ (br : _). either_way (node_fails (place name at (last_node (term_of t))) Wide []) (walked scope call name (at + 1) a) (walked scope call name (at + 1 + written a) b) (λ x y. at_stmt name at (at_node (last_node (term_of t)) [] (joined x y))) br.holds br.fails in
      assoc r both (walked scope call name (at + 1 + written a + written b) rest)
      ∙ ap (λ k. and_then (and_then r both) (walked scope call name k rest)) count
      ∙ ap (λ q. and_then q (walked scope call name (at + (1 + written a + written b + 0)) rest)) (sym (and_then-Ok (and_then r both)) ∙ sym (assoc r both (λ e. Ok e)))
  walked_then (Execute x) rest at env = ap (λ q. and_then q (walked scope call name (at + 1) rest)) (sym (and_then-Ok (call x env)))

-- the calls of a method
module _ (scope : Scope) (ms : List Routine) (m : List ℕ) (env : Ranges) where
  pub no_chain : (n : ℕ) → n ≡ 0 → range_calls_of scope ms n m env ≡ Err (node_fails (place m 0 0) Wide [])
  unfolding range_calls_of
  no_chain zero e = refl
  no_chain (suc n) e = absurd (omega arith)

  pub no_method : (n : ℕ) → body_named ms m ≡ None → range_calls_of scope ms n m env ≡ Err (node_fails (place m 0 0) Wide [])
  unfolding range_calls_of
  no_method zero e = refl
  no_method (suc n) e = ap (λ o. with_body m o (λ b. walked scope (range_calls_of scope ms n) m 0 b env)) e

  pub calls_body : (n : ℕ) (b : Body) → n ≢ 0 → body_named ms m ≡ Some b → range_calls_of scope ms n m env ≡ walked scope (range_calls_of scope ms (n - 1)) m 0 b env
  unfolding range_calls_of
  calls_body zero b l e = absurd (l refl)
  calls_body (suc n) b l e =
      let less : n ≡ suc n - 1 = omega arith in
      ap (λ o. with_body m o (λ b. walked scope (range_calls_of scope ms n) m 0 b env)) e
      ∙ ap (λ k. walked scope (range_calls_of scope ms k) m 0 b env) less

-- ---- steps

module _ (w : Walk) (spot : Spot) where
  -- a statement that passes, and those behind it
  pub step_on : (s : Stmt) (rest : Body) (next : ℕ) (rs ms : List Interval) → walked_in w spot (stmt_then s done) rs ≡ Ok (ranges_in w.plan.now ms) → next ≡ spot.at + written (stmt_then s done) → walked_in w (record spot { at = next }) rest ms ≡ walked_in w spot (stmt_then s rest) rs
  step_on s rest next rs ms h number =
      ap (λ k. walked_in w (record spot { at = k }) rest ms) number
      ∙ ap (λ q. and_then q (walked (scope_in w.plan.now) (calls_in w spot.chain) spot.method (spot.at + written (stmt_then s done)) rest)) (sym h)
      ∙ sym (walked_then (scope_in w.plan.now) (calls_in w spot.chain) spot.method s rest spot.at (ranges_in w.plan.now rs))

  -- a statement that stops
  pub step_stops : (s : Stmt) (rest : Body) (rs : List Interval) (f : WalkStop) → FaultOf (walked_in w spot (stmt_then s done) rs) f → FaultOf (walked_in w spot (stmt_then s rest) rs) f
  step_stops s rest rs f h =
      let first = walked_in w spot (stmt_then s done) rs in
      fault_through first (walked_in w spot (stmt_then s rest) rs) f
      (λ e is.
      walked_then (scope_in w.plan.now) (calls_in w spot.chain) spot.method s rest spot.at (ranges_in w.plan.now rs)
      ∙ ap (λ q. and_then q (walked (scope_in w.plan.now) (calls_in w spot.chain) spot.method (spot.at + written (stmt_then s done)) rest)) is)
      h

-- a fault of a result that is the same
pub fault_as : (r q : Result Ranges WalkFault) (f : WalkStop) → r ≡ q → FaultOf q f → FaultOf r f
fault_as r q f e h = subst (λ x. FaultOf x f) (sym e) h

-- a fault of what comes first
pub fault_first : (r : Result Ranges WalkFault) (go : Ranges → Result Ranges WalkFault) (f : WalkStop) → FaultOf r f → FaultOf (and_then r go) f
fault_first r go f h = fault_through r (and_then r go) f (λ e is. ap (λ q. and_then q go) is) h

-- ---- what functions answer

pub passes_not : (p : Passage) (new : List Interval) (res : Result ℕ WalkStop) (f : WalkStop) → IsErrAnd res (λ g. g ≡ f) → FaultOf p.ranges f → Passes p new res
passes_not p new (Ok n) f is h = absurd is
passes_not p new (Err g) f is h = subst (FaultOf p.ranges) (sym is) h

pub env_err : (w : Walk) (r : Result Ranges WalkFault) (new : List Interval) (res : Result (Unit {0}) WalkStop) (f : WalkStop) → IsErrAnd res (λ g. g ≡ f) → FaultOf r f → EnvAnswer w r new res
env_err w r new (Ok u) f is h = absurd is
env_err w r new (Err g) f is h = subst (FaultOf r) (sym is) h

pub passes_to : (p : Passage) (next : ℕ) (new : List Interval) (res : Result ℕ WalkStop) → p.next ≡ next → Passes p new res → Passes (record p { next = next }) new res
passes_to p next new res e h = subst (λ k. Passes (record p { next = k }) new res) e h

-- both lists pass, and their ranges meet
pub both_meet : (w : Walk) (spot : Spot) (f : Fork) (second : ℕ) (rs ss xs ys : List Interval) → walked_in w (first_spot spot) (body_of f.yes.now) rs ≡ Ok (ranges_in w.plan.now xs) → walked_in w (record spot { at = second }) (body_of f.no.now) ss ≡ Ok (ranges_in w.plan.now ys) → second ≡ spot.at + 1 + written (body_of f.yes.now)
    → met_in w spot f rs ss ≡ at_stmt spot.method spot.at (at_node f.root [] (joined (ranges_in w.plan.now xs) (ranges_in w.plan.now ys)))
both_meet w spot f second rs ss xs ys first last number =
    let meet : Ranges → Ranges → Result Ranges WalkFault = λ x y. at_stmt spot.method spot.at (at_node f.root [] (joined x y)) in
    ap (λ q. and_then q (λ x. and_then (walked_in w (second_spot spot f) (body_of f.no.now) ss) (meet x))) first
    ∙ ap (λ q. and_then q (meet (ranges_in w.plan.now xs))) (ap (λ k. walked_in w (record spot { at = k }) (body_of f.no.now) ss) (sym number) ∙ last)

pub meets : (p : PlanText) (name : List ℕ) (at node : ℕ) (rs ss new : List Interval) → IsSized p rs → IsSized p ss → joined_lists rs ss ≡ Ok new → at_stmt name at (at_node node [] (joined (ranges_in p rs) (ranges_in p ss))) ≡ Ok (ranges_in p new)
meets p name at node rs ss new e f h =
    ap (λ j. at_stmt name at (at_node node [] j)) (joined_by_name (variables_in p) rs ss e f ∙ ap (λ o. and_then o (λ ts. Ok (with_names (variables_in p) ts))) h)

pub meets_not : (p : PlanText) (name : List ℕ) (at node : ℕ) (rs ss : List Interval) (c : RangeCause) → IsSized p rs → IsSized p ss → joined_lists rs ss ≡ Err c → at_stmt name at (at_node node [] (joined (ranges_in p rs) (ranges_in p ss))) ≡ Err (node_fails (place name at node) c [])
meets_not p name at node rs ss c e f h =
    ap (λ j. at_stmt name at (at_node node [] j)) (joined_by_name (variables_in p) rs ss e f ∙ ap (λ o. and_then o (λ ts. Ok (with_names (variables_in p) ts))) h)

-- an IF whose test has these branches
pub if_forks : (w : Walk) (spot : Spot) (t : Expr) (f : Fork) (rs : List Interval) (b : Branches) → tested_in w (term_of t) 0 rs ≡ Ok (branches_in w.plan.now rs b) → f.root ≡ last_node (term_of t)
    → walked_in w spot (if_of t f.yes.now f.no.now) rs ≡ forked_in w spot f (branches_in w.plan.now rs b)
if_forks w spot t f rs b test root =
    let p = w.plan.now in
    let none : ℕ → WalkFault = λ n. node_fails (place spot.method spot.at n) Wide [] in
    let first : Ranges → Result Ranges WalkFault = λ e. walked (scope_in p) (calls_in w spot.chain) spot.method (spot.at + 1) (body_of f.yes.now) e in
    let second : Ranges → Result Ranges WalkFault = λ e. walked (scope_in p) (calls_in w spot.chain) spot.method (spot.at + 1 + written (body_of f.yes.now)) (body_of f.no.now) e in
    let meet : ℕ → Ranges → Ranges → Result Ranges WalkFault = λ n x y. at_stmt spot.method spot.at (at_node n [] (joined x y)) in
    let last = last_node (term_of t) in
    ap (λ q. and_then (at_stmt spot.method spot.at q) (λ br. and_then (either_way (none last) first second (meet last) br.holds br.fails) (λ e. Ok e))) test
    ∙ and_then-Ok (either_way (none last) first second (meet last) (ranges_after p rs b.holds) (ranges_after p rs b.fails))
    ∙ ap (λ n. either_way (none n) first second (meet n) (ranges_after p rs b.holds) (ranges_after p rs b.fails)) (sym root)

pub if_passes : (w : Walk) (spot : Spot) (t : Expr) (f : Fork) (rs new : List Interval) (br : meant.Branches) (res : Result ℕ WalkStop) → walked_in w spot (if_of t f.yes.now f.no.now) rs ≡ forked_in w spot f br → Passes (through_fork w spot f br) new res → Passes (through_if w spot t f.yes.now f.no.now rs) new res
if_passes w spot t f rs new br res e h = subst (λ q. Passes (record { plan = w.plan.now; ranges = q; next = end_of spot f }) new res) (sym e) h

-- behind the first list the second one stops
pub second_stops : (w : Walk) (spot : Spot) (f : Fork) (rs ss xs : List Interval) (fault : WalkStop) → walked_in w (first_spot spot) (body_of f.yes.now) rs ≡ Ok (ranges_in w.plan.now xs) → FaultOf (walked_in w (second_spot spot f) (body_of f.no.now) ss) fault → FaultOf (met_in w spot f rs ss) fault
second_stops w spot f rs ss xs fault first h =
    let meet : Ranges → Ranges → Result Ranges WalkFault = λ x y. at_stmt spot.method spot.at (at_node f.root [] (joined x y)) in
    let last = walked_in w (second_spot spot f) (body_of f.no.now) ss in
    fault_as (met_in w spot f rs ss) (and_then last (meet (ranges_in w.plan.now xs))) fault
    (ap (λ q. and_then q (λ x. and_then last (meet x))) first)
    (fault_first last (meet (ranges_in w.plan.now xs)) fault h)

-- the first list stops
first_stops : (w : Walk) (spot : Spot) (f : Fork) (rs ss : List Interval) (fault : WalkStop) → FaultOf (walked_in w (first_spot spot) (body_of f.yes.now) rs) fault → FaultOf (met_in w spot f rs ss) fault
first_stops w spot f rs ss fault h =
    fault_first (walked_in w (first_spot spot) (body_of f.yes.now) rs)
    (λ x. and_then (walked_in w (second_spot spot f) (body_of f.no.now) ss) (λ y. at_stmt spot.method spot.at (at_node f.root [] (joined x y)))) fault h

-- both lists pass: the ranges behind them are joined, whichever was walked last
module _ (w : Walk) (spot : Spot) (f : Fork) (second : ℕ) (rs ss xs ys : List Interval) (first_sized : IsSized w.plan.now xs) (second_sized : IsSized w.plan.now ys) (number : second ≡ spot.at + 1 + written (body_of f.yes.now))
    (first : walked_in w (first_spot spot) (body_of f.yes.now) rs ≡ Ok (ranges_in w.plan.now xs)) (last : walked_in w (record spot { at = second }) (body_of f.no.now) ss ≡ Ok (ranges_in w.plan.now ys)) where
  same_length : length xs ≡ length ys
  same_length = first_sized ∙ sym second_sized

  pub both_join : (new : List Interval) → joined_lists xs ys ≡ Ok new → met_in w spot f rs ss ≡ Ok (ranges_in w.plan.now new)
  both_join new e =
      both_meet w spot f second rs ss xs ys first last number
      ∙ meets w.plan.now spot.method spot.at f.root xs ys new first_sized second_sized e

  pub both_stop : (stop : Stop) (new : List Interval) → MeetsAnswer f.root xs ys new (Err stop) → StopsAt (met_in w spot f rs ss) stop spot
  both_stop (stops.At node cause) new e =
      both_meet w spot f second rs ss xs ys first last number
      ∙ meets_not w.plan.now spot.method spot.at f.root xs ys cause first_sized second_sized e.1
      ∙ ap (λ n. Err (node_fails (place spot.method spot.at n) cause [])) (sym e.0)
  both_stop (stops.AtOne node cause x) new e = absurd e
  both_stop (stops.AtTwo node cause x y) new e = absurd e
  both_stop stops.Memory new e = tt

  pub both_join_back : (new : List Interval) → joined_lists ys xs ≡ Ok new → met_in w spot f rs ss ≡ Ok (ranges_in w.plan.now new)
  both_join_back new e = both_join new (joined_either xs ys same_length ∙ e)

  pub both_stop_back : (stop : Stop) (new : List Interval) → MeetsAnswer f.root ys xs new (Err stop) → StopsAt (met_in w spot f rs ss) stop spot
  both_stop_back (stops.At node cause) new e = both_stop (stops.At node cause) new (e.0, joined_either xs ys same_length ∙ e.1)
  both_stop_back (stops.AtOne node cause x) new e = absurd e
  both_stop_back (stops.AtTwo node cause x y) new e = absurd e
  both_stop_back stops.Memory new e = tt

-- both lists were walked, and one of them stops
pub both_fault : (w : Walk) (spot : Spot) (f : Fork) (second : ℕ) (rs ss xs ys : List Interval) (before behind : Result ℕ WalkStop) (stop : WalkStop) → second ≡ spot.at + 1 + written (body_of f.yes.now) → IsBehindLists before behind (Err stop)
    → Passes (through_body w (first_spot spot) (body_of f.yes.now) rs) xs before → Passes (through_body w (record spot { at = second }) (body_of f.no.now) ss) ys behind
    → FaultOf (met_in w spot f rs ss) stop
both_fault w spot f second rs ss xs ys (Ok n) (Ok m) stop number is first last = absurd cc
both_fault w spot f second rs ss xs ys (Ok n) (Err s) stop number is first last =
    let same : s ≡ stop = cc in
    subst (FaultOf (met_in w spot f rs ss)) same
    (second_stops w spot f rs ss xs s first.0
    (subst (λ k. FaultOf (walked_in w (record spot { at = k }) (body_of f.no.now) ss) s) number last))
both_fault w spot f second rs ss xs ys (Err s) (Ok m) stop number is first last =
    let same : s ≡ stop = cc in
    subst (FaultOf (met_in w spot f rs ss)) same (first_stops w spot f rs ss s first)
both_fault w spot f second rs ss xs ys (Err s) (Err (walks.Refused refusal)) stop number is first last =
    let same : s ≡ stop = cc in
    subst (FaultOf (met_in w spot f rs ss)) same (first_stops w spot f rs ss s first)
both_fault w spot f second rs ss xs ys (Err s) (Err walks.Memory) stop number is first last =
    let same : walks.Memory ≡ stop = cc in
    subst (FaultOf (met_in w spot f rs ss)) same tt
