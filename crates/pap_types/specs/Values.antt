-- The value of an expression, and what its evaluation costs: two recursions over the written tree.
use Rattle.std.specs.Prelude.{ℕ, ◌+◌, Bool, true, not, if◌then◌else◌, List, [], ◌∷◌, Option, Some, None}
use Rattle.std.specs.Option.{option_map, option_and_then, option_map_or, option_or}
use Rattle.std.specs.Str.{bytes_eq}
use Rattle.scaled_decimal.specs.Decimals.{Decimal, decimal, numerator_of}
use Rattle.pap_tree.specs.declared.expression.Binary.TheVariants as binaries
use Rattle.pap_tree.specs.Grammar.{known_value}
use Rattle.pap_tree.specs.Term.{Leaf, whole, long, point, text, known, named, Term, leaf, item, one, two, choice, Two, operator}
use Rattle.pap_types.specs.Scopes.{Scope, constant_in, table_in}
use Rattle.scaled_decimal.specs.WholeNumbers.{item_at}
use Rattle.pap_types.specs.Operations.{is_zero, of_one, of_two}

-- a variable and its value
pub record Variable : Type 0 where
  pub name : List ℕ
  pub value : Decimal

-- an environment: what each variable stands for
abbrev pub Env : Type 0
Env = List Variable

-- the value of the first variable of a name
abbrev pub look : Env → List ℕ → Option Decimal
look [] x = None
look (v ∷ vs) x = if bytes_eq v.name x then Some v.value else look vs x

-- the entry of a name replaced
abbrev pub put_value : Env → List ℕ → Decimal → Env
put_value [] x d = []
put_value (v ∷ vs) x d = if bytes_eq v.name x then record v { value = d } ∷ vs else v ∷ put_value vs x d

-- whether the right operand is evaluated, given the value of the left one: that of && where the left one is true, that of
-- || where it is false, any other always
abbrev pub goes_right : Two → Decimal → Bool
goes_right (operator binaries.And) a = not (is_zero a)
goes_right (operator binaries.Or) a = is_zero a
goes_right _ a = true

module _ (scope : Scope) where
  -- the value of a name: a variable's or a constant's
  abbrev pub named_value : List ℕ → Env → Option Decimal
  named_value x env = option_or (look env x) (constant_in scope x)

  -- the value of a literal, of a constant of `BigDecimal`, or of a name
  abbrev pub leaf_value : Leaf → Env → Option Decimal
  leaf_value (whole i) env = Some (decimal i 0)
  leaf_value (long i) env = Some (decimal i 0)
  leaf_value (point d) env = Some d
  leaf_value (text d) env = Some d
  leaf_value (known k) env = Some (known_value k)
  leaf_value (named x) env = named_value x env

  -- The value of an expression, with no bound on any number, or none where it is undefined: at a zero divisor and at an
  -- index outside its table. Operands are evaluated from the left; what needs no right operand doesn't ask for its
  -- value.
  abbrev pub value : Term → Env → Option Decimal
  value (leaf l) env = leaf_value l env
  value (item x e) env = option_and_then (λ i. item_at (table_in scope x) (numerator_of i)) (value e env)
  value (one op e) env = option_map (λ a. of_one op e a) (value e env)
  value (two op e f) env =
      option_and_then (λ a. if goes_right op a then option_and_then (λ b. of_two op a b) (value f env) else Some a) (value e env)
  value (choice c e f) env = option_and_then (λ t. if is_zero t then value f env else value e env) (value c env)

  -- the cost of an expression: one step for each evaluated node, and one more for the first part of a conditional where
  -- it is taken
  abbrev pub cost : Term → Env → ℕ
  cost (leaf l) env = 1
  cost (item x e) env = cost e env + 1
  cost (one op e) env = cost e env + 1
  cost (two op e f) env = cost e env + option_map_or (λ a. if goes_right op a then cost f env else 0) (value e env) 0 + 1
  cost (choice c e f) env = cost c env + option_map_or (λ t. if is_zero t then cost f env else cost e env + 1) (value c env) 0 + 1
