-- What private contracts say of the evaluation of expressions.
use Rattle.std.specs.Prelude.{List, IsSome}
use Rattle.scaled_decimal.specs.Decimals.{Decimal}
use Rattle.pap_tree.specs.declared.plan.PlanText.{PlanText}
use Rattle.pap_tree.specs.Term.{Term}
use Rattle.pap_types.specs.Safety.{IsSafe}
use Rattle.pap_types.specs.Typing.{IsTypedTerm}
use Rattle.pap_types.specs.private.ScopeViews.{scope_in}
use Rattle.run_values.specs.private.ValueViews.{values_in, value_in, HasValues}

-- an expression whose evaluation is safe and gives a value
pub record CanEvaluate (p : PlanText) (t : Term) (vs : List Decimal) : Type 0 where
  pub values : HasValues p vs
  pub typed : IsTypedTerm (scope_in p) t
  pub safe : IsSafe (scope_in p) t (values_in p vs)
  pub defined : IsSome (value_in p t vs)
