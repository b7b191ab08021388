-- The values of a run's variables, by their numbers: inputs, outputs and internals in declared order.
use Rattle.std.specs.Prelude.{ℕ, List, ◌++◌, map, Option, Some, None, slice_get, slice_set}
use Rattle.std.specs.Option.{option_and_then}
use Rattle.scaled_decimal.specs.Decimals.{Decimal}
use Rattle.pap_tree.specs.Flowchart.{Flowchart}
use Rattle.pap_types.specs.Scopes.{names_of, number_of, variables_of, first_value}

-- the values with which a run begins
abbrev pub begin_values : Flowchart → List Decimal → List Decimal
begin_values f inputs = (inputs ++ map first_value f.outputs) ++ map first_value f.internals

-- the number of a variable's name
abbrev pub variable_number : Flowchart → List ℕ → Option ℕ
variable_number f x = number_of (names_of (variables_of f)) x

-- the value of a variable; none of a name that is no variable's
abbrev pub variable_value : Flowchart → List Decimal → List ℕ → Option Decimal
variable_value f values x = option_and_then (slice_get values) (variable_number f x)

-- the values with another one at a number
abbrev pub with_number : List Decimal → Option ℕ → Decimal → List Decimal
with_number values None v = values
with_number values (Some i) v = slice_set values i v

-- the values where a variable has this one
abbrev pub with_variable : Flowchart → List Decimal → List ℕ → Decimal → List Decimal
with_variable f values x v = with_number values (variable_number f x) v
