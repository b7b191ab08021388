-- What private contracts say of the evaluation of expressions.
use Rattle.std.specs.Prelude.{◌≡◌, ℕ, ◌+◌, ◌<◌, ◌^◌, List, Result, Ok, Err}
use Rattle.scaled_decimal.specs.Decimals.{Decimal}
use Rattle.pap_tree.specs.declared.plan.PlanText.{PlanText}
use Rattle.pap_tree.specs.Term.{Term}
use Rattle.pap_tree.specs.Numbering.{nodes}
use Rattle.pap_tree.specs.Scales.{KeepsScales}
use Rattle.pap_types.specs.declared.kinds.NodeKind.{NodeKind}
use Rattle.pap_types.specs.Kinds.{kind_of}
use Rattle.pap_types.specs.Typing.{IsTypedTerm}
use Rattle.pap_types.specs.private.ScopeViews.{scope_in}
use Rattle.run_values.specs.private.ValueViews.{values_in, HasValues}
use Rattle.checked_run.specs.declared.cause.FailureCause.{FailureCause}
use Rattle.checked_run.specs.declared.expressions.Evaluated.{Evaluated}
use Rattle.checked_run.specs.declared.failure.NodeFailure.{NodeFailure}
use Rattle.checked_run.specs.RunFailures.{EvaluatesTo, FailsAt}

-- an expression, whose nodes are numbered from `at`
pub record CanEvaluate (p : PlanText) (t : Term) (at : ℕ) (vs : List Decimal) : Type 0 where
  pub values : HasValues p vs
  pub typed : IsTypedTerm (scope_in p) t
  pub scales : KeepsScales t
  pub room : at + nodes t < 2 ^ 32

-- an expression has this value and this kind, and the numbers of its nodes end there
pub record IsEvaluated (p : PlanText) (t : Term) (at : ℕ) (vs : List Decimal) (r : Evaluated) : Type 0 where
  pub to : EvaluatesTo (scope_in p) t (values_in p vs) r.value
  pub kind : r.kind ≡ kind_of (scope_in p) t
  pub next : r.next ≡ at + nodes t

-- its value, or where it fails
abbrev pub EvaluationAnswer :
    PlanText → Term → ℕ → List Decimal → Result Evaluated NodeFailure → Type 0
EvaluationAnswer p t at vs (Ok r) = IsEvaluated p t at vs r
EvaluationAnswer p t at vs (Err x) = FailsAt (scope_in p) (values_in p vs) t at x.node x.cause

-- the answer of the node of a number
abbrev pub OwnAnswer :
    Result Decimal FailureCause → NodeKind → ℕ → Result Evaluated NodeFailure → Type 0
OwnAnswer (Ok v) k n (Ok r) = (r.value ≡ v) × (r.kind ≡ k) × (r.next ≡ n + 1)
OwnAnswer (Err c) k n (Err x) = (x.node ≡ n) × (x.cause ≡ c)
OwnAnswer _ k n _ = ⊥
