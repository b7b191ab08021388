-- What private contracts say of the walk of statements.
use Rattle.std.specs.Prelude.{◌≡◌, ℕ, ◌+◌, ◌<◌, ◌^◌, List, ◌++◌, Option, Some, Result, Ok, Err, IsSome, ⊤}
use Rattle.std.specs.Option.{option_map}
use Rattle.std.specs.declared.alloc.AllocError.{AllocError}
use Rattle.scaled_decimal.specs.Decimals.{Decimal}
use Rattle.pap_tree.specs.declared.plan.PlanText.{PlanText}
use Rattle.pap_tree.specs.Flowchart.{Body}
use Rattle.pap_tree.specs.Statements.{written}
use Rattle.pap_types.specs.Runs.{Calls, after, IsSafeBody, calls_of}
use Rattle.pap_types.specs.Typing.{IsTypedBody}
use Rattle.pap_types.specs.Values.{Env}
use Rattle.pap_tree.specs.private.TreeViews.{methods_in}
use Rattle.month_trace.specs.declared.step.TraceStep.{TraceStep}
use Rattle.month_trace.specs.declared.statements.Spot.{Spot}
use Rattle.month_trace.specs.Traces.{Trace, traced, traces_of}
use Rattle.pap_types.specs.private.ScopeViews.{scope_in}
use Rattle.run_values.specs.private.ValueViews.{values_in, HasValues}

-- ---- the definitions, for a plan, from values by number

-- what methods do and what they add to a trace, where a chain of them has at most so many
abbrev pub calls_by : PlanText → ℕ → Calls
calls_by p chain = calls_of (scope_in p) (methods_in p) chain

abbrev pub traces_by : PlanText → ℕ → List ℕ → Env → Trace
traces_by p chain = traces_of (scope_in p) (methods_in p) chain

-- where statements lead, and their trace
abbrev pub after_in : PlanText → ℕ → Body → Env → Option Env
after_in p chain b env = after (scope_in p) (calls_by p chain) b env

abbrev pub traced_in : PlanText → Spot → Body → Env → Trace
traced_in p spot b env =
    traced (scope_in p) (calls_by p spot.chain) (traces_by p spot.chain) spot.method spot.at b env

-- steps, and then those of a trace
abbrev pub followed : List TraceStep → Trace → Trace
followed steps rest = option_map (λ more. steps ++ more) rest

-- ---- what may be run

-- statements whose run is safe and defined, the first of which stands there
pub record CanRun (p : PlanText) (spot : Spot) (b : Body) (vs : List Decimal) : Type 0 where
  pub values : HasValues p vs
  pub typed : IsTypedBody (scope_in p) (methods_in p) b
  pub safe : IsSafeBody (scope_in p) (calls_by p spot.chain) b (values_in p vs)
  pub defined : IsSome (after_in p spot.chain b (values_in p vs))
  pub room : spot.at + written b < 2 ^ 32

-- the execution of a method
pub record CanExecute (p : PlanText) (m : List ℕ) (chain : ℕ) (vs : List Decimal) : Type 0 where
  pub values : HasValues p vs
  pub safe : (calls_by p chain).IsSafeCall m (values_in p vs)
  pub defined : IsSome ((calls_by p chain).after m (values_in p vs))

-- ---- what is answered

-- values and steps, before or after what is run
pub record Progress : Type 0 where
  pub values : List Decimal
  pub steps : List TraceStep

abbrev pub progress : List Decimal → List TraceStep → Progress
progress vs steps = record { values = vs; steps = steps }

-- from one to the next the values are those behind a run, and its trace was appended
pub record Goes (p : PlanText) (ends : Option Env) (trace : Trace) (old new : Progress) : Type 0 where
  pub values : ends ≡ Some (values_in p new.values)
  pub steps : followed old.steps trace ≡ Some new.steps

-- the same of statements, behind which the next one has this number; memory is free
abbrev pub GoesTo : PlanText → Spot → Body → Progress → Progress → Result ℕ AllocError → Type 0
GoesTo p spot b old new (Ok next) =
    Goes p (after_in p spot.chain b (values_in p old.values)) (traced_in p spot b (values_in p old.values)) old new
    × (next ≡ spot.at + written b)
GoesTo p spot b old new (Err e) = ⊤

-- the same of a method's execution
abbrev pub GoesInside : PlanText → List ℕ → ℕ → Progress → Progress → Result (Unit {0}) AllocError → Type 0
GoesInside p m chain old new (Ok u) =
    Goes p ((calls_by p chain).after m (values_in p old.values)) (traces_by p chain m (values_in p old.values)) old new
GoesInside p m chain old new (Err e) = ⊤
