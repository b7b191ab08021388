-- When a plan is well typed: what is tried of it, in the order in which it is tried. Each check passes or earns a fault; a
-- plan is well typed where all checks pass, and it is refused with the fault of the first that doesn't.
use Rattle.std.specs.Prelude.{◌≡◌, ℕ, ◌+◌, ◌-◌, Bool, true, false, not, ◌&&◌, if◌then◌else◌, List, [], ◌∷◌, ◌++◌, Option, Some, None, is_some}
use Rattle.std.specs.List.{list_any}
use Rattle.std.specs.Option.{option_map, option_map_or}
use Rattle.std.specs.Str.{bytes_eq}
use Rattle.pap_tree.specs.declared.declaration.Kind.{Kind}
use Rattle.pap_tree.specs.declared.declaration.Kind.TheVariants as declares
use Rattle.pap_tree.specs.declared.place.Place.{Place}
use Rattle.pap_tree.specs.Term.{Leaf, whole, long, point, named, Term, leaf, item, one, two, choice}
use Rattle.pap_tree.specs.Numbering.{nodes}
use Rattle.pap_tree.specs.Declarations.{Declaration, DeclaredLiteral, number, big, table}
use Rattle.pap_tree.specs.Flowchart.{Body, done, eval, branch, execute, Routine, Flowchart}
use Rattle.pap_tree.specs.Statements.{written}
use Rattle.pap_types.specs.declared.fault.TypeFault.{TypeFault}
use Rattle.pap_types.specs.declared.fault.TypeFault.TheVariants as faults
use Rattle.pap_types.specs.Scopes.{Scope, scope_of, declared_as, declaration_in}
use Rattle.pap_types.specs.Routines.{body_named}
use Rattle.pap_tree.specs.Names.{main_name}
use Rattle.pap_types.specs.Kinds.{leaf_kind, kind_of, is_table, is_int, is_truth, takes_one, takes_two, are_parts, has_few_places, suits}

-- one thing that is tried of a plan, and the fault where it doesn't pass
pub record Check : Type 0 where
  pub passes : Bool
  pub fault : TypeFault

-- the check of a test and a fault
abbrev pub check : Bool → TypeFault → Check
check passes fault = record { passes = passes; fault = fault }

-- ---- declarations: a new name, and a literal of its type

-- the name is among these
abbrev pub has_name : List (List ℕ) → List ℕ → Bool
has_name names x = list_any (bytes_eq x) names

-- an `int` takes an `int` literal, a `long` one of either, a `double` a number of at most three places
abbrev pub is_of_type : Kind → DeclaredLiteral → Bool
is_of_type declares.Int (number (whole i)) = true
is_of_type declares.Long (number (whole i)) = true
is_of_type declares.Long (number (long i)) = true
is_of_type declares.Factor (number (whole i)) = true
is_of_type declares.Factor (number (point d)) = has_few_places d
is_of_type declares.Big (big d) = true
is_of_type declares.Table (table ds) = true
is_of_type _ _ = false

-- the checks of declarations that follow those of the names before them
abbrev pub declaration_checks : List (List ℕ) → List Declaration → List Check
declaration_checks before [] = []
declaration_checks before (d ∷ ds) =
    check (not (has_name before d.name)) (faults.Twice d.name)
    ∷ (check (option_map_or (is_of_type d.kind) d.value true) (faults.Value d.name)
    ∷ declaration_checks (before ++ (d.name ∷ [])) ds)

-- ---- names of methods, beside that of MAIN

-- the checks of methods that follow names which are taken
abbrev pub method_checks : List (List ℕ) → List Routine → List Check
method_checks before [] = []
method_checks before (m ∷ ms) =
    check (not (has_name before m.name)) (faults.Twice m.name) ∷ method_checks (before ++ (m.name ∷ [])) ms

-- ---- nodes, in the order of their numbers

-- the place of a node: its method, its statement and its number there
abbrev pub place : List ℕ → ℕ → ℕ → Place
place name stmt node = record { method = name; stmt = stmt; node = node }

module _ (scope : Scope) (at_node : ℕ → Place) where
  -- the check that a name is declared
  abbrev pub known_check : List ℕ → ℕ → Check
  known_check x at = check (is_some (declaration_in scope x)) (faults.Unknown x (at_node at))

  -- the check that the operands of a node suit its operation
  abbrev pub kind_check : Bool → ℕ → Check
  kind_check passes at = check passes (faults.Kind (at_node at))

  -- the check of a name that it is declared; a literal needs no check
  abbrev pub leaf_checks : Leaf → ℕ → List Check
  leaf_checks (named x) at = known_check x at ∷ []
  leaf_checks _ at = []

  -- the checks of an expression whose nodes are numbered from `at`: those of its operands, then its own
  abbrev pub node_checks : Term → ℕ → List Check
  node_checks (leaf l) at = leaf_checks l at
  node_checks (item x e) at =
      node_checks e at
      ++ (known_check x (at + nodes e) ∷ (kind_check (is_table (leaf_kind scope (named x)) && is_int (kind_of scope e)) (at + nodes e) ∷ []))
  node_checks (one op e) at = node_checks e at ++ (kind_check (takes_one op (kind_of scope e)) (at + nodes e) ∷ [])
  node_checks (two op e f) at =
      node_checks e at
      ++ (node_checks f (at + nodes e)
      ++ (kind_check (takes_two scope op e (kind_of scope e) f (kind_of scope f)) (at + nodes e + nodes f) ∷ []))
  node_checks (choice c e f) at =
      node_checks c at
      ++ (node_checks e (at + nodes c)
      ++ (node_checks f (at + nodes c + nodes e)
      ++ (kind_check (is_truth (kind_of scope c) && are_parts (kind_of scope e) (kind_of scope f)) (at + nodes c + nodes e + nodes f) ∷ [])))

-- ---- statements, in the order of their numbers

-- an expression's last node, which is the whole
abbrev pub last_node : Term → ℕ
last_node e = nodes e - 1

-- the kind of a name that may be assigned to
abbrev pub target_kind : Scope → List ℕ → Option Kind
target_kind scope x = option_map (λ d. d.kind) (declared_as scope.variables x)

module _ (scope : Scope) (methods : List Routine) (name : List ℕ) where
  -- the checks of an assignment: its target is declared and isn't a constant, then its nodes, then the value suits the
  -- target
  abbrev pub eval_checks : ℕ → List ℕ → Term → List Check
  eval_checks stmt x e =
      let last = place name stmt (last_node e) in
      check (is_some (declaration_in scope x)) (faults.Unknown x last)
      ∷ (check (is_some (target_kind scope x)) (faults.ConstantWritten last)
      ∷ (node_checks scope (place name stmt) e 0
      ++ (check (option_map_or (λ k. suits k e (kind_of scope e)) (target_kind scope x) false) (faults.Kind last) ∷ [])))

  -- the checks of a test: its nodes, then the whole is a truth
  abbrev pub test_checks : ℕ → Term → List Check
  test_checks stmt t =
      node_checks scope (place name stmt) t 0 ++ (check (is_truth (kind_of scope t)) (faults.Kind (place name stmt (last_node t))) ∷ [])

  -- the checks of statements that are numbered from `at`
  abbrev pub body_checks : ℕ → Body → List Check
  body_checks at done = []
  body_checks at (eval x e rest) = eval_checks at x e ++ body_checks (at + 1) rest
  body_checks at (branch t a b rest) =
      test_checks at t
      ++ (body_checks (at + 1) a ++ (body_checks (at + 1 + written a) b ++ body_checks (at + 1 + written a + written b) rest))
  body_checks at (execute m rest) =
      check (is_some (body_named methods m)) (faults.NoMethod (place name at 0)) ∷ body_checks (at + 1) rest

-- the checks of methods, one after the other
abbrev pub routine_checks : Scope → List Routine → List Routine → List Check
routine_checks scope all [] = []
routine_checks scope all (m ∷ ms) = body_checks scope all m.name 0 m.body ++ routine_checks scope all ms

-- ---- the whole: declarations, names of methods, MAIN, the methods

-- the checks of a plan
abbrev pub checks_of : Flowchart → List Check
checks_of f =
    declaration_checks [] (f.inputs ++ (f.outputs ++ (f.internals ++ f.constants)))
    ++ (method_checks (main_name ∷ []) f.methods
    ++ (body_checks (scope_of f) f.methods main_name 0 f.main
    ++ routine_checks (scope_of f) f.methods f.methods))

-- the fault of the first check that doesn't pass, or none
abbrev pub first_fault : List Check → Option TypeFault
first_fault [] = None
first_fault (c ∷ cs) = if c.passes then first_fault cs else Some c.fault

-- what is wrong with a plan's names and kinds, or nothing
abbrev pub type_fault : Flowchart → Option TypeFault
type_fault f = first_fault (checks_of f)

-- a plan whose checks all pass
abbrev pub IsWellTyped : Flowchart → Type 0
IsWellTyped f = type_fault f ≡ None
