-- What private contracts say of single operations.
use Rattle.std.specs.Prelude.{IsSome}
use Rattle.scaled_decimal.specs.Decimals.{Decimal}
use Rattle.pap_tree.specs.Term.{One, Two}
use Rattle.pap_types.specs.declared.kinds.NodeKind.{NodeKind}
use Rattle.pap_types.specs.Operations.{of_two}
use Rattle.pap_types.specs.Safety.{OneFits, TwoFits}
use Rattle.run_values.specs.private.OperationViews.{IsPlainForTwo}

-- the working numbers of an operation on one operand fit, whatever the kind of its result
pub record CanTakeOne (op : One) (a : Decimal) : Type 0 where
  pub kind : NodeKind
  pub fits : OneFits op kind a

-- the same of an operation on two operands, which has a value, and where the divisor of divide(d) is a plain one
pub record CanTakeTwo (op : Two) (a b : Decimal) : Type 0 where
  pub kind : NodeKind
  pub fits : TwoFits op kind a b
  pub plain : IsPlainForTwo op b
  pub defined : IsSome (of_two op a b)
