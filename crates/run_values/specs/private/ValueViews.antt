-- What private contracts, those of crates above too, say of the values of a plan's variables by number.
use Rattle.std.specs.Prelude.{◌≡◌, List, Option, IsTrue, ⊤}
use Rattle.scaled_decimal.specs.Decimals.{Decimal, decimal}
use Rattle.pap_tree.specs.declared.declaration.Kind.{Kind}
use Rattle.pap_tree.specs.declared.declaration.Kind.TheVariants.{Factor}
use Rattle.pap_tree.specs.declared.plan.PlanText.{PlanText}
use Rattle.pap_tree.specs.Term.{Term, leaf, whole, point}
use Rattle.pap_tree.specs.Flowchart.{flowchart_of}
use Rattle.pap_types.specs.Checks.{IsWellTyped}
use Rattle.pap_types.specs.Kinds.{has_few_places}
use Rattle.pap_types.specs.Values.{Env, value}
use Rattle.pap_types.specs.private.ScopeViews.{scope_in}
use Rattle.run_values.specs.NumberedValues.{variables_with, HasOneEach}

abbrev pub values_in : PlanText → List Decimal → Env
values_in p vs = variables_with (flowchart_of p) vs

-- one value for each variable
abbrev pub IsSized : PlanText → List Decimal → Type 0
IsSized p vs = HasOneEach (flowchart_of p) vs

-- the value of an expression
abbrev pub value_in : PlanText → Term → List Decimal → Option Decimal
value_in p t vs = value (scope_in p) t (values_in p vs)

-- the plan is well typed, and each of its variables has a value
pub record HasValues (p : PlanText) (vs : List Decimal) : Type 0 where
  pub well_typed : IsWellTyped (flowchart_of p)
  pub sized : IsSized p vs

-- a literal that may go to a `double`, with its value
abbrev pub IsFactorOf : Term → Decimal → Type 0
IsFactorOf (leaf (whole i)) v = v ≡ decimal i 0
IsFactorOf (leaf (point d)) v = (v ≡ d) × IsTrue (has_few_places d)
IsFactorOf e v = ⊥

-- a variable of a kind may get the value of an expression
abbrev pub CanKeep : Kind → Term → Decimal → Type 0
CanKeep Factor e v = IsFactorOf e v
CanKeep kind e v = ⊤
