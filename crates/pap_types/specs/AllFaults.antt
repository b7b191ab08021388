-- All faults of a plan's names and kinds: each declaration, each name of a method and each statement may have one, that of the first of its
-- checks that doesn't pass. They stand in the order of the checks.
use Rattle.std.specs.Prelude.{◌≡◌, ◌↔◌, ℕ, ◌+◌, Bool, true, false, if◌then◌else◌, List, [], ◌∷◌, ◌++◌, slice_get}
use Rattle.std.specs.List.{list_any}
use Rattle.std.specs.Option.{option_to_list}
use Rattle.pap_tree.specs.Declarations.{Declaration}
use Rattle.pap_tree.specs.Flowchart.{Body, done, eval, branch, execute, Routine, Flowchart}
use Rattle.pap_tree.specs.Names.{main_name}
use Rattle.pap_tree.specs.Statements.{written}
use Rattle.pap_types.specs.declared.fault.TypeFault.{TypeFault}
use Rattle.pap_types.specs.declared.fault.TypeFault.TheVariants as faults
use Rattle.pap_types.specs.Scopes.{Scope, scope_of}
use Rattle.pap_types.specs.Checks.{Check, first_fault, declaration_checks, method_checks, eval_checks, test_checks, body_checks, type_fault, IsWellTyped}
use Rattle.pap_types.specs.Typing.{declarations_of}

-- the fault of the first of these checks that doesn't pass, alone in a list; no fault where all pass
abbrev pub own_fault : List Check → List TypeFault
own_fault cs = option_to_list (first_fault cs)

-- ---- names

-- the faults of declarations that follow those of the names before them
abbrev pub declaration_faults : List (List ℕ) → List Declaration → List TypeFault
declaration_faults before [] = []
declaration_faults before (d ∷ ds) =
    own_fault (declaration_checks before (d ∷ [])) ++ declaration_faults (before ++ (d.name ∷ [])) ds

-- the faults of methods' names that follow names which are taken
abbrev pub method_name_faults : List (List ℕ) → List Routine → List TypeFault
method_name_faults before [] = []
method_name_faults before (m ∷ ms) =
    own_fault (method_checks before (m ∷ [])) ++ method_name_faults (before ++ (m.name ∷ [])) ms

-- the faults of all names that a plan declares
abbrev pub name_faults : Flowchart → List TypeFault
name_faults f = declaration_faults [] (declarations_of f) ++ method_name_faults (main_name ∷ []) f.methods

-- the fault of a name that stands twice
abbrev pub is_twice : TypeFault → Bool
is_twice (faults.Twice x) = true
is_twice _ = false

-- ---- statements

module _ (scope : Scope) (methods : List Routine) (name : List ℕ) where
  -- the faults of statements that are numbered from `at`
  abbrev pub body_faults : ℕ → Body → List TypeFault
  body_faults at done = []
  body_faults at (eval x e rest) = own_fault (eval_checks scope methods name at x e) ++ body_faults (at + 1) rest
  body_faults at (branch t a b rest) =
      own_fault (test_checks scope methods name at t)
      ++ (body_faults (at + 1) a ++ (body_faults (at + 1 + written a) b ++ body_faults (at + 1 + written a + written b) rest))
  body_faults at (execute m rest) =
      own_fault (body_checks scope methods name at (execute m done)) ++ body_faults (at + 1) rest

-- the faults of methods' statements, one method after the other
abbrev pub routine_faults : Scope → List Routine → List Routine → List TypeFault
routine_faults scope all [] = []
routine_faults scope all (m ∷ ms) = body_faults scope all m.name 0 m.body ++ routine_faults scope all ms

-- the faults of all statements of a plan: those of MAIN, then those of the methods
abbrev pub statement_faults : Flowchart → List TypeFault
statement_faults f = body_faults (scope_of f) f.methods main_name 0 f.main ++ routine_faults (scope_of f) f.methods f.methods

-- ---- the whole

-- the faults of a plan: those of its names, and those of its statements unless a name stands twice
abbrev pub type_faults : Flowchart → List TypeFault
type_faults f = name_faults f ++ (if list_any is_twice (name_faults f) then [] else statement_faults f)

-- ---- laws

-- the fault with which a plan is refused is the first of all
abbrev pub RefusedByFirst : Flowchart → Type 0
RefusedByFirst f = slice_get (type_faults f) 0 ≡ type_fault f

-- a plan is well typed exactly where it has no fault
abbrev pub FaultlessIsWellTyped : Flowchart → Type 0
FaultlessIsWellTyped f = IsWellTyped f ↔ (type_faults f ≡ [])
