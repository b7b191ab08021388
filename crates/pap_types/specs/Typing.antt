-- What holds of the parts of a plan exactly where it is well typed: each name is declared, each operation takes its
-- operands, each target suits its value.
use Rattle.std.specs.Prelude.{◌≡◌, ◌≢◌, ℕ, IsTrue, true, is_some, List, ◌∷◌, ◌++◌, Some, All, AllPairs, ⊤}
use Rattle.std.specs.Option.{option_map_or}
use Rattle.pap_tree.specs.Term.{Leaf, named, Term, leaf, item, one, two, choice}
use Rattle.pap_tree.specs.Declarations.{Declaration}
use Rattle.pap_tree.specs.Flowchart.{Body, done, eval, branch, execute, Routine, Flowchart}
use Rattle.pap_types.specs.Scopes.{Scope, scope_of, declared_as, declaration_in, names_of}
use Rattle.pap_types.specs.Routines.{body_named, method_names}
use Rattle.pap_tree.specs.Names.{main_name}
use Rattle.pap_types.specs.Kinds.{name_kind, kind_of, is_table, is_int, is_truth, are_parts, takes_one, takes_two, suits}
use Rattle.pap_types.specs.Checks.{is_of_type}

-- ---- expressions

module _ (scope : Scope) where
  -- a literal, or a name that is declared
  abbrev pub IsDeclaredLeaf : Leaf → Type 0
  IsDeclaredLeaf (named x) = IsTrue (is_some (declaration_in scope x))
  IsDeclaredLeaf _ = ⊤

  -- the index of an item is an `int`, and what it is of a declared table
  pub record IndexFits (x : List ℕ) (e : Term) : Type 0 where
    pub declared : IsTrue (is_some (declaration_in scope x))
    pub table : IsTrue (is_table (name_kind scope x))
    pub index : IsTrue (is_int (kind_of scope e))

  -- the test of a conditional is a truth, and its parts go together
  pub record PartsFit (c e f : Term) : Type 0 where
    pub test : IsTrue (is_truth (kind_of scope c))
    pub parts : IsTrue (are_parts (kind_of scope e) (kind_of scope f))

  -- each name of an expression is declared, and each of its operations takes its operands
  abbrev pub IsTypedTerm : Term → Type 0
  IsTypedTerm (leaf l) = IsDeclaredLeaf l
  IsTypedTerm (item x e) = IsTypedTerm e × IndexFits x e
  IsTypedTerm (one op e) = IsTypedTerm e × IsTrue (takes_one op (kind_of scope e))
  IsTypedTerm (two op e f) =
      IsTypedTerm e × IsTypedTerm f × IsTrue (takes_two scope op e (kind_of scope e) f (kind_of scope f))
  IsTypedTerm (choice c e f) = IsTypedTerm c × IsTypedTerm e × IsTypedTerm f × PartsFit c e f

-- ---- statements

-- the target of an assignment is a variable, which may get the value
pub record TargetSuits (scope : Scope) (x : List ℕ) (e : Term) : Type 0 where
  pub declaration : Declaration
  pub declared : declared_as scope.variables x ≡ Some declaration
  pub suits : IsTrue (suits declaration.kind e (kind_of scope e))

-- the method that is executed is there
pub record IsMethod (methods : List Routine) (m : List ℕ) : Type 0 where
  pub body : Body
  pub named : body_named methods m ≡ Some body

module _ (scope : Scope) (methods : List Routine) where
  -- each expression of the statements is typed, each target suits its value, and each method is there
  abbrev pub IsTypedBody : Body → Type 0
  IsTypedBody done = ⊤
  IsTypedBody (eval x e rest) = IsTypedTerm scope e × TargetSuits scope x e × IsTypedBody rest
  IsTypedBody (branch t a b rest) =
      IsTypedTerm scope t × IsTrue (is_truth (kind_of scope t)) × IsTypedBody a × IsTypedBody b × IsTypedBody rest
  IsTypedBody (execute m rest) = IsMethod methods m × IsTypedBody rest

-- ---- the plan

-- the declarations of a plan in the order of its checks
abbrev pub declarations_of : Flowchart → List Declaration
declarations_of f = f.inputs ++ (f.outputs ++ (f.internals ++ f.constants))

-- a written literal is of its type
abbrev pub HasItsType : Declaration → Type 0
HasItsType d = IsTrue (option_map_or (is_of_type d.kind) d.value true)

-- no two names are the same
abbrev pub AreDistinct : List (List ℕ) → Type 0
AreDistinct names = AllPairs (λ x y. x ≢ y) names

-- Names are distinct, declared literals are of their types, and the statements of MAIN and of the methods are typed.
pub record HasTypes (f : Flowchart) : Type 0 where
  pub names : AreDistinct (names_of (declarations_of f))
  pub literals : All HasItsType (declarations_of f)
  pub method_names : AreDistinct (main_name ∷ method_names f.methods)
  pub main : IsTypedBody (scope_of f) f.methods f.main
  pub methods : All (λ m. IsTypedBody (scope_of f) f.methods m.body) f.methods
