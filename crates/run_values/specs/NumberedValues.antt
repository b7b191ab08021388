-- The values that a run has, by the numbers of a plan's variables: inputs, outputs and internals in declared order.
use Rattle.std.specs.Prelude.{◌≡◌, ℕ, List, [], ◌∷◌, length, Some}
use Rattle.std.specs.Option.{option_map_or}
use Rattle.scaled_decimal.specs.Decimals.{Decimal}
use Rattle.pap_tree.specs.Flowchart.{Flowchart}
use Rattle.pap_tree.specs.Term.{Term}
use Rattle.pap_types.specs.Meaning.{start}
use Rattle.pap_types.specs.Scopes.{Scope, scope_of, variables_of, names_of, declared_as, kept_as}
use Rattle.pap_types.specs.Typing.{TargetSuits}
use Rattle.pap_types.specs.Values.{Env, value}

-- values by number, each with its name
abbrev pub variables_named : List (List ℕ) → List Decimal → Env
variables_named [] vs = []
variables_named (x ∷ xs) [] = []
variables_named (x ∷ xs) (v ∷ vs) = record { name = x; value = v } ∷ variables_named xs vs

-- the variables of a plan with these values
abbrev pub variables_with : Flowchart → List Decimal → Env
variables_with f vs = variables_named (names_of (variables_of f)) vs

-- one value for each variable
abbrev pub HasOneEach : Flowchart → List Decimal → Type 0
HasOneEach f vs = length vs ≡ length (names_of (variables_of f))

-- one value for each variable, those with which a run begins
pub record IsStart (f : Flowchart) (inputs vs : List Decimal) : Type 0 where
  pub sized : HasOneEach f vs
  pub values : variables_with f vs ≡ start f inputs

-- a variable may get the value of an expression
pub record CanPut (f : Flowchart) (x : List ℕ) (e : Term) (vs : List Decimal) (v : Decimal) : Type 0 where
  pub target : TargetSuits (scope_of f) x e
  pub value : value (scope_of f) e (variables_with f vs) ≡ Some v

-- the value that an assignment puts: a literal that goes to a `double` gets three places
abbrev pub value_put : Scope → List ℕ → Decimal → Decimal
value_put scope x v = option_map_or (λ d. kept_as d.kind v) (declared_as scope.variables x) v
