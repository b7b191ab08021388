-- What private contracts say of the run of statements.
use Rattle.std.specs.Prelude.{◌≡◌, ℕ, ◌+◌, ◌<◌, ◌^◌, List, Result, Ok, Err}
use Rattle.scaled_decimal.specs.Decimals.{Decimal}
use Rattle.pap_tree.specs.declared.plan.PlanText.{PlanText}
use Rattle.pap_tree.specs.Flowchart.{Body}
use Rattle.pap_tree.specs.Statements.{written}
use Rattle.pap_tree.specs.Term.{Term}
use Rattle.pap_tree.specs.private.TreeViews.{methods_in}
use Rattle.pap_types.specs.Counts.{IsSmallTerm, AreSmallTerms}
use Rattle.pap_types.specs.Runs.{Calls, calls_of}
use Rattle.pap_types.specs.Typing.{IsTypedTerm, IsTypedBody, IsMethod}
use Rattle.pap_types.specs.private.ScopeViews.{scope_in}
use Rattle.checked_run.specs.declared.failure.RunFailure.{RunFailure}
use Rattle.checked_run.specs.declared.statements.Spot.{Spot}
use Rattle.checked_run.specs.RunFailures.{EvaluatesTo, ExpressionFails, RunsTo, ExecutesTo, BodyFails, CallsFail}
use Rattle.run_values.specs.private.ValueViews.{values_in, HasValues}

-- ---- the definitions, for a plan, from values by number

-- what methods do, where a chain of them has at most so many
abbrev pub calls_by : PlanText → ℕ → Calls
calls_by p chain = calls_of (scope_in p) (methods_in p) chain

-- the run of statements leads from some values to others
abbrev pub RunsFromTo : PlanText → ℕ → Body → List Decimal → List Decimal → Type 0
RunsFromTo p chain b old new =
    RunsTo (scope_in p) (calls_by p chain) b (values_in p old) (values_in p new)

-- statements fail there, the first of which stands here
abbrev pub FailsFrom : PlanText → Spot → Body → List Decimal → RunFailure → Type 0
FailsFrom p spot b vs x =
    BodyFails (scope_in p) (calls_by p spot.chain) (CallsFail (scope_in p) (methods_in p) spot.chain)
    spot.method x spot.at b (values_in p vs)

-- ---- what may be run

-- an expression of a statement
pub record CanEvaluateThere (p : PlanText) (t : Term) (vs : List Decimal) : Type 0 where
  pub values : HasValues p vs
  pub typed : IsTypedTerm (scope_in p) t
  pub small : IsSmallTerm t

-- statements, the first of which stands there
pub record CanRun (p : PlanText) (spot : Spot) (b : Body) (vs : List Decimal) : Type 0 where
  pub values : HasValues p vs
  pub typed : IsTypedBody (scope_in p) (methods_in p) b
  pub small : AreSmallTerms b
  pub room : spot.at + written b < 2 ^ 32

-- the execution of a method
pub record CanExecute (p : PlanText) (m : List ℕ) (vs : List Decimal) : Type 0 where
  pub values : HasValues p vs
  pub there : IsMethod (methods_in p) m

-- ---- what is answered

-- the value of an expression of the statement that stands there, or where it fails
abbrev pub StatementAnswer :
    PlanText → List ℕ → ℕ → Term → List Decimal → Result Decimal RunFailure → Type 0
StatementAnswer p name at t vs (Ok v) = EvaluatesTo (scope_in p) t (values_in p vs) v
StatementAnswer p name at t vs (Err x) =
    ExpressionFails (scope_in p) name at t (values_in p vs) x

-- where statements lead, behind which the next one has this number, or where they fail
abbrev pub BodyAnswer :
    PlanText → Spot → Body → List Decimal → List Decimal → Result ℕ RunFailure → Type 0
BodyAnswer p spot b old new (Ok next) =
    RunsFromTo p spot.chain b old new × (next ≡ spot.at + written b)
BodyAnswer p spot b old new (Err x) = FailsFrom p spot b old x

-- the same of a method's execution
abbrev pub CallAnswer :
    PlanText → ℕ → List ℕ → List Decimal → List Decimal → Result (Unit {0}) RunFailure → Type 0
CallAnswer p chain m old new (Ok u) =
    ExecutesTo (calls_by p chain) m (values_in p old) (values_in p new)
CallAnswer p chain m old new (Err x) =
    CallsFail (scope_in p) (methods_in p) chain m (values_in p old) x
