-- The walk of a plan's statements over the ranges of its variables.
use Rattle.std.specs.Prelude.{ℕ, zero, suc, ◌+◌, List, [], ◌∷◌, Option, Some, None, Result, Ok, Err}
use Rattle.std.specs.Option.{option_map_or}
use Rattle.pap_tree.specs.declared.declaration.Kind.{Kind}
use Rattle.pap_tree.specs.declared.declaration.Kind.TheVariants as declares
use Rattle.pap_tree.specs.Flowchart.{Body, done, eval, branch, execute, Routine}
use Rattle.pap_tree.specs.Statements.{written}
use Rattle.interval_num.specs.declared.cause.RangeCause.{RangeCause}
use Rattle.interval_num.specs.declared.cause.RangeCause.TheVariants.{Wide}
use Rattle.interval_num.specs.Intervals.{Interval}
use Rattle.interval_num.specs.Alignment.{at_scale}
use Rattle.interval_num.specs.Rows.{join_row}
use Rattle.pap_types.specs.Scopes.{Scope, declared_as, factor_places}
use Rattle.pap_types.specs.Routines.{body_named}
use Rattle.pap_types.specs.Checks.{place, last_node}
use Rattle.interval_walk.specs.Ranges.{Ranges, put_range}
use Rattle.interval_walk.specs.Failures.{WalkFault, node_fails, and_then, at_node, at_stmt}
use Rattle.interval_walk.specs.Branches.{either_way}
use Rattle.interval_walk.specs.Ranged.{ranged, tested}

-- a range as a variable of a kind keeps it: that of a `double` has three places
abbrev pub range_kept_as : Kind → Interval → Interval
range_kept_as declares.Factor a = record (at_scale factor_places a) { s_lo = factor_places }
range_kept_as _ a = a

-- a range as the variable of a name keeps it
abbrev pub kept_range : Scope → List ℕ → Interval → Interval
kept_range scope x a = option_map_or (λ d. range_kept_as d.kind a) (declared_as scope.variables x) a

-- the variables after an assignment
abbrev pub assigned_range : Scope → List ℕ → Interval → Ranges → Ranges
assigned_range scope x a env = put_range env x (kept_range scope x a)

-- the ranges of two branches together, variable by variable
abbrev pub joined : Ranges → Ranges → Result Ranges RangeCause
joined [] [] = Ok []
joined (v ∷ vs) (w ∷ ws) =
    and_then (join_row v.range w.range) (λ a.
    and_then (joined vs ws) (λ rest. Ok (record v { range = a } ∷ rest)))
joined [] (w ∷ ws) = Err Wide
joined (v ∷ vs) [] = Err Wide

-- what a method makes of the ranges
abbrev pub RangeCalls : Type 0
RangeCalls = List ℕ → Ranges → Result Ranges WalkFault

module _ (scope : Scope) (call : RangeCalls) (name : List ℕ) where
  -- the ranges after the statements of a method, which are numbered from `at`, or the first node that may fail
  abbrev pub walked : ℕ → Body → Ranges → Result Ranges WalkFault
  walked at done env = Ok env
  walked at (eval x e rest) env =
      and_then (at_stmt name at (ranged scope e 0 env)) (λ a.
      walked (at + 1) rest (assigned_range scope x a env))
  walked at (branch t a b rest) env =
      and_then (at_stmt name at (tested scope t 0 env)) (λ br.
      and_then
      (either_way
      (node_fails (place name at (last_node t)) Wide [])
      (walked (at + 1) a)
      (walked (at + 1 + written a) b)
      (λ x y. at_stmt name at (at_node (last_node t) [] (joined x y)))
      br.holds
      br.fails)
      (walked (at + 1 + written a + written b) rest))
  walked at (execute m rest) env = and_then (call m env) (walked (at + 1) rest)

-- the walk of a method's body, in place
abbrev pub with_body :
    List ℕ → Option Body → (Body → Result Ranges WalkFault) → Result Ranges WalkFault
with_body m (Some b) go = go b
with_body m None go = Err (node_fails (place m 0 0) Wide [])

-- the methods, where a chain of them has at most so many
unfoldable pub range_calls_of : Scope → List Routine → ℕ → RangeCalls
range_calls_of scope ms zero m env = Err (node_fails (place m 0 0) Wide [])
range_calls_of scope ms (suc n) m env =
    with_body m (body_named ms m) (λ b. walked scope (range_calls_of scope ms n) m 0 b env)
