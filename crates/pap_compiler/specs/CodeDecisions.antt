-- The code of a plan: MAIN's, the end, and then that of each method once. An EXECUTE is a call.
use Rattle.std.specs.Prelude.{ℕ, ◌+◌, ℤ, pos, if◌then◌else◌, List, [], ◌∷◌, ◌++◌, length, map, unwrap_or, slice_index}
use Rattle.std.specs.Option.{option_map, option_map_or, option_or}
use Rattle.scaled_decimal.specs.Decimals.{decimal, numerator_of}
use Rattle.scaled_decimal.specs.ShortenedDecimals.{shortened}
use Rattle.pap_tree.specs.declared.expression.Unary.TheVariants.{Minus, Not, Negate, Abs}
use Rattle.pap_tree.specs.declared.expression.Binary.{Binary}
use Rattle.pap_tree.specs.declared.expression.Binary.TheVariants as binaries
use Rattle.pap_tree.specs.declared.expression.Call.{Call}
use Rattle.pap_tree.specs.declared.expression.Call.TheVariants as calls
use Rattle.pap_tree.specs.Grammar.{known_value}
use Rattle.pap_tree.specs.Term.{Leaf, whole, long, point, text, known, named, Term, leaf, item, one, two, choice, One, unary, value_of, value_of_scaled, new_big, set_scale, Two, operator, method, divide}
use Rattle.pap_tree.specs.Declarations.{Declaration}
use Rattle.pap_tree.specs.Flowchart.{Body, done, eval, branch, execute, Routine, Flowchart}
use Rattle.pap_types.specs.Scopes.{Scope, scope_of, variables_of, names_of, number_of, first_value, constant_in, at_factor_scale, zero, declared_table}
use Rattle.pap_types.specs.Kinds.{name_kind, shown_divisor, has_few_places}
use Rattle.pap_types.specs.Routines.{method_names}
use Rattle.pap_types.specs.Operations.{fewest_places}
use Rattle.pap_types.specs.declared.kinds.NodeKind.{NodeKind}
use Rattle.pap_types.specs.declared.kinds.NodeKind.TheVariants.{Factor}
use Rattle.pap_machine.specs.declared.code.Instr.{Instr}
use Rattle.pap_machine.specs.declared.code.Instr.TheVariants as i
use Rattle.pap_machine.specs.Code.{Program}
use Rattle.pap_compiler.specs.Heights.{height_of}
use Rattle.pap_compiler.specs.Depths.{depth_of}

-- ---- how many instructions there are

-- how many instructions an expression has: one for each node, and one more for each jump of a conditional
abbrev pub term_length : Term → ℕ
term_length (leaf l) = 1
term_length (item x e) = term_length e + 1
term_length (one op e) = term_length e + 1
term_length (two op e f) = term_length e + term_length f + 1
term_length (choice c e f) = term_length c + 1 + term_length e + 1 + term_length f

-- how many instructions a list of statements has
abbrev pub body_length : Body → ℕ
body_length done = 0
body_length (eval x e rest) = term_length e + 1 + body_length rest
body_length (branch t a b rest) = term_length t + 1 + body_length a + 1 + body_length b + body_length rest
body_length (execute m rest) = 1 + body_length rest

-- ---- expressions

-- the instruction of an operation on one operand
abbrev pub instr_of_one : One → Instr
instr_of_one (unary Minus) = i.IntNeg
instr_of_one (unary Not) = i.Not
instr_of_one (unary Negate) = i.Neg
instr_of_one (unary Abs) = i.Abs
instr_of_one value_of = i.Same
instr_of_one (value_of_scaled s) = i.Scaled s
instr_of_one new_big = i.Same
instr_of_one (set_scale s mode) = i.Set s mode

-- the instruction of an operator; && and || have none behind their right operand
abbrev pub instr_of_operator : Binary → Instr
instr_of_operator binaries.Mul = i.IntMul
instr_of_operator binaries.Div = i.IntDiv
instr_of_operator binaries.Rem = i.IntRem
instr_of_operator binaries.Plus = i.IntAdd
instr_of_operator binaries.Sub = i.IntSub
instr_of_operator binaries.Less = i.Less
instr_of_operator binaries.LessEq = i.LessEq
instr_of_operator binaries.More = i.More
instr_of_operator binaries.MoreEq = i.MoreEq
instr_of_operator binaries.Same = i.Equal
instr_of_operator binaries.Differs = i.Differs
instr_of_operator binaries.And = i.Same
instr_of_operator binaries.Or = i.Same

-- the code of an operand of valueOf: a literal with a point stands there without the zeros that end it
abbrev pub operand_code : One → Term → List Instr → List Instr
operand_code value_of (leaf (point d)) code = i.Lit (shortened fewest_places d) ∷ []
operand_code _ e code = code

module _ (scope : Scope) where
  -- the slot of a variable
  abbrev pub slot : List ℕ → ℕ
  slot x = unwrap_or (number_of (names_of scope.variables) x) 0

  -- the instruction of a name: a variable is read from its slot, and a constant stands in the code
  abbrev pub name_code : List ℕ → Instr
  name_code x =
      option_map_or (λ k. i.Load k) (number_of (names_of scope.variables) x) (i.Lit (unwrap_or (constant_in scope x) zero))

  -- the table of a name: each name has one, those of variables before those of constants
  abbrev pub table_number : List ℕ → ℕ
  table_number x =
      unwrap_or
      (option_or
      (number_of (names_of scope.variables) x)
      (option_map (λ k. length scope.variables + k) (number_of (names_of scope.constants) x)))
      0

  -- the instruction of a literal or a name
  abbrev pub leaf_code : Leaf → Instr
  leaf_code (whole n) = i.Lit (decimal n 0)
  leaf_code (long n) = i.Lit (decimal n 0)
  leaf_code (point d) = i.Lit d
  leaf_code (text d) = i.Lit d
  leaf_code (known k) = i.Lit (known_value k)
  leaf_code (named x) = name_code x

  -- the number of the divisor of divide(d) that the text shows
  abbrev pub shown_number : Term → ℤ
  shown_number d = option_map_or numerator_of (shown_divisor scope d) (pos 0)

  -- the instruction of a method of one argument
  abbrev pub instr_of_method : Call → Term → Instr
  instr_of_method calls.Add d = i.Add
  instr_of_method calls.Subtract d = i.Sub
  instr_of_method calls.Multiply d = i.Mul
  instr_of_method calls.DivideExact d = i.DivExact (shown_number d)
  instr_of_method calls.CompareTo d = i.Cmp
  instr_of_method calls.Min d = i.Min
  instr_of_method calls.Max d = i.Max

  -- the instruction of an operation on two operands
  abbrev pub instr_of_two : Two → Term → Instr
  instr_of_two (operator o) f = instr_of_operator o
  instr_of_two (method m) f = instr_of_method m f
  instr_of_two (divide s mode) f = i.Div s mode

  -- an expression's code, whose first instruction has the number `at`
  abbrev pub term_code : ℕ → Term → List Instr
  term_code at (leaf l) = leaf_code l ∷ []
  term_code at (item x e) = term_code at e ++ i.Item (table_number x) ∷ []
  term_code at (one op e) = operand_code op e (term_code at e) ++ instr_of_one op ∷ []
  term_code at (two (operator binaries.And) e f) =
      term_code at e
      ++ i.AndSkip (at + term_length e + 1 + term_length f) ∷ term_code (at + term_length e + 1) f
  term_code at (two (operator binaries.Or) e f) =
      term_code at e
      ++ i.OrSkip (at + term_length e + 1 + term_length f) ∷ term_code (at + term_length e + 1) f
  term_code at (two op e f) = term_code at e ++ (term_code (at + term_length e) f ++ instr_of_two op f ∷ [])
  term_code at (choice c e f) =
      term_code at c
      ++ i.JumpFalse (at + term_length c + 1 + term_length e + 1)
      ∷ (term_code (at + term_length c + 1) e
      ++ i.Jump (at + term_length c + 1 + term_length e + 1 + term_length f)
      ∷ term_code (at + term_length c + 1 + term_length e + 1) f)

-- ---- statements

-- the code of what goes to a `double`: a literal stands in it with three places
abbrev pub factor_code : Term → List Instr → List Instr
factor_code (leaf (whole n)) code = i.Lit (at_factor_scale (decimal n 0)) ∷ []
factor_code (leaf (point d)) code = if has_few_places d then i.Lit (at_factor_scale d) ∷ [] else code
factor_code _ code = code

-- the code of an assigned expression; a value that goes to a `double` gets its three places
abbrev pub assigned_code : NodeKind → Term → List Instr → List Instr
assigned_code Factor e code = factor_code e code
assigned_code _ e code = code

module _ (scope : Scope) (to : List ℕ → ℕ) where
  -- the code of a list of statements, given the first instruction of each method
  abbrev pub body_code : ℕ → Body → List Instr
  body_code at done = []
  body_code at (eval x e rest) =
      assigned_code (name_kind scope x) e (term_code scope at e)
      ++ i.Store (slot scope x) ∷ body_code (at + term_length e + 1) rest
  body_code at (branch t a b rest) =
      term_code scope at t
      ++ i.JumpFalse (at + term_length t + 1 + body_length a + 1)
      ∷ (body_code (at + term_length t + 1) a
      ++ i.Jump (at + term_length t + 1 + body_length a + 1 + body_length b)
      ∷ (body_code (at + term_length t + 1 + body_length a + 1) b
      ++ body_code (at + term_length t + 1 + body_length a + 1 + body_length b) rest))
  body_code at (execute m rest) = i.Call (to m) ∷ body_code (at + 1) rest

  -- the code of each method, one after the other, with its return
  abbrev pub methods_code : ℕ → List Routine → List Instr
  methods_code at [] = []
  methods_code at (m ∷ ms) = body_code at m.body ++ i.Return ∷ methods_code (at + body_length m.body + 1) ms

-- the first instruction of each method, where the first method begins at `at`
abbrev pub entries_from : ℕ → List Routine → List ℕ
entries_from at [] = []
entries_from at (m ∷ ms) = at ∷ entries_from (at + body_length m.body + 1) ms

-- the first instruction of the method of a name
abbrev pub entry : ℕ → List Routine → List ℕ → ℕ
entry at ms x = option_map_or (slice_index (entries_from at ms)) (number_of (method_names ms) x) 0

-- ---- the plan

-- the first instruction of the first method, behind those of MAIN and the end
abbrev pub first_method : Flowchart → ℕ
first_method f = body_length f.main + 1

-- the code of a plan: MAIN's, the end, and then each method's
abbrev pub code_of : Flowchart → List Instr
code_of f =
    body_code (scope_of f) (entry (first_method f) f.methods) 0 f.main
    ++ i.End ∷ methods_code (scope_of f) (entry (first_method f) f.methods) (first_method f) f.methods

-- k, k + 1 and so on, as many as the list has
abbrev pub numbers_from : ℕ → List Declaration → List ℕ
numbers_from k [] = []
numbers_from k (d ∷ ds) = k ∷ numbers_from (k + 1) ds

-- the program of a plan
abbrev pub compiled : Flowchart → Program
compiled f = record {
  instrs = code_of f;
  tables = map (λ d. declared_table d.value) (variables_of f ++ f.constants);
  inputs = length f.inputs;
  outputs = numbers_from (length f.inputs) f.outputs;
  start = map first_value (variables_of f);
  depth = depth_of f;
  height = height_of f;
}
