-- What may be evaluated of the parts of an expression.
use Rattle.std.proofs.Common.{◌≡◌, List, true, false, Some}
use Rattle.std.specs.Prelude.{IsSome, if◌then◌else◌}
use Rattle.std.specs.Option.{option_and_then}
use Rattle.scaled_decimal.specs.Decimals.{Decimal}
use Rattle.pap_tree.specs.declared.plan.PlanText.{PlanText}
use Rattle.pap_tree.specs.Term.{Term, One, one, Two, two, choice}
use Rattle.pap_types.specs.Kinds.{kind_of}
use Rattle.pap_types.specs.Operations.{is_zero, of_two}
use Rattle.pap_types.specs.Values.{goes_right}
use Rattle.pap_types.specs.private.ScopeViews.{scope_in}
use Rattle.run_values.specs.private.ValueViews.{value_in}
use Rattle.run_values.proofs.Laws.{plain_two}
use Rattle.month_trace.specs.private.OperationViews.{CanTakeOne, CanTakeTwo}
use Rattle.month_trace.specs.private.ValueViews.{CanEvaluate}
use Rattle.month_trace.proofs.OperationLemmas.{some_first, some_step, some_if, some_else}

-- ---- two operands

module _ (p : PlanText) (vs : List Decimal) (op : Two) (e f : Term) (h : CanEvaluate p (two op e f) vs) (a : Decimal)
    (is : value_in p e vs ≡ Some a) where
  -- what follows the left operand has a value
  right_defined : goes_right op a ≡ true → IsSome (option_and_then (λ b. of_two op a b) (value_in p f vs))
  right_defined goes =
      some_if (goes_right op a) _ (Some a) goes
      (some_step (λ a. if goes_right op a then option_and_then (λ b. of_two op a b) (value_in p f vs) else Some a)
      (value_in p e vs) a is h.defined)

  pub can_right : goes_right op a ≡ true → CanEvaluate p f vs
  can_right goes = record {
    values = h.values;
    typed = h.typed.1;
    safe = (h.safe.1 a is goes).0;
    defined = some_first (λ b. of_two op a b) (value_in p f vs) (right_defined goes);
  }

  -- both operands have values: the operation may be done
  pub can_two : (b : Decimal) → goes_right op a ≡ true → value_in p f vs ≡ Some b → CanTakeTwo op a b
  can_two b goes is' = record {
    kind = kind_of (scope_in p) (two op e f);
    fits = (h.safe.1 a is goes).1 b is';
    plain = plain_two p vs op e f b h.values h.typed is';
    defined = some_step (λ b. of_two op a b) (value_in p f vs) b is' (right_defined goes);
  }

-- ---- one operand, and the parts of a conditional

pub can_one : (p : PlanText) (vs : List Decimal) (op : One) (e : Term) (h : CanEvaluate p (one op e) vs) (a : Decimal)
    → value_in p e vs ≡ Some a → CanTakeOne op a
can_one p vs op e h a is = record { kind = kind_of (scope_in p) (one op e); fits = h.safe.1 a is }

module _ (p : PlanText) (vs : List Decimal) (c e f : Term) (h : CanEvaluate p (choice c e f) vs) (t : Decimal)
    (is : value_in p c vs ≡ Some t) where
  part_defined : IsSome (if is_zero t then value_in p f vs else value_in p e vs)
  part_defined =
      some_step (λ t. if is_zero t then value_in p f vs else value_in p e vs) (value_in p c vs) t is h.defined

  pub can_first : is_zero t ≡ false → CanEvaluate p e vs
  can_first z = record {
    values = h.values;
    typed = h.typed.1;
    safe = (h.safe.1 t is).1 z;
    defined = some_else (is_zero t) (value_in p f vs) (value_in p e vs) z part_defined;
  }

  pub can_second : is_zero t ≡ true → CanEvaluate p f vs
  can_second z = record {
    values = h.values;
    typed = h.typed.2;
    safe = (h.safe.1 t is).0 z;
    defined = some_if (is_zero t) (value_in p f vs) (value_in p e vs) z part_defined;
  }
