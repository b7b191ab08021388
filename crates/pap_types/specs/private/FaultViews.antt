-- What the private functions find of all faults of a plan.
use Rattle.std.specs.Prelude.{◌≡◌, ℕ, false, List, [], ◌∷◌, ◌++◌, None, Result, Ok, Err}
use Rattle.std.specs.List.{list_any}
use Rattle.pap_tree.specs.declared.declaration.Kind.TheVariants.{Int}
use Rattle.pap_tree.specs.declared.plan.PlanText.{PlanText}
use Rattle.pap_tree.specs.Declarations.{Declaration}
use Rattle.pap_tree.specs.Flowchart.{Body, Routine, flowchart_of}
use Rattle.pap_types.specs.declared.fault.TypeFault.{TypeFault}
use Rattle.pap_types.specs.declared.fault.TypeFault.TheVariants.{Memory}
use Rattle.pap_types.specs.declared.scope.Names.{Names}
use Rattle.pap_types.specs.declared.scope.Scope.{Scope as InScope}
use Rattle.pap_types.specs.declared.statements.Checking.{Checking}
use Rattle.pap_types.specs.Scopes.{scope_of, names_of}
use Rattle.pap_types.specs.NumberedNames.{IsNumbered}
use Rattle.pap_types.specs.AllFaults.{declaration_faults, name_faults, is_twice, body_faults, routine_faults}

-- the fault of a verdict, where it has one, came behind what there was; memory didn't run out
abbrev pub KeepsFault : Result (Unit {0}) TypeFault → List TypeFault → List TypeFault → Type 0
KeepsFault (Ok u) before after = after ≡ before
KeepsFault (Err (Memory e)) before after = ⊥
KeepsFault (Err f) before after = after ≡ before ++ f ∷ []

-- ---- names

-- The faults of these declarations, whatever follows them, came behind those before; and unless a name stands twice, their names stand
-- behind the old ones. `earlier` are names of another sort, which are taken too.
pub record FindsNames (earlier old new : List (List ℕ)) (before after : List TypeFault) (ds : List Declaration) : Type 0 where
  pub faults : (rest : List Declaration)
      → after ++ declaration_faults (earlier ++ new) rest ≡ before ++ declaration_faults (earlier ++ old) (ds ++ rest)
  pub names : list_any is_twice after ≡ false → new ≡ old ++ names_of ds

-- the name of a method, as that of a declaration without a literal
abbrev pub as_declaration : Routine → Declaration
as_declaration m = record { name = m.name; kind = Int; value = None }

-- these are the faults of a plan's names, and where none stands twice, the names are numbered
pub record AreNameFaults (plan : PlanText) (names : Names) (faults : List TypeFault) : Type 0 where
  pub are : faults ≡ name_faults (flowchart_of plan)
  pub numbered : list_any is_twice faults ≡ false → IsNumbered plan names

-- ---- statements

-- the faults of statements that are numbered from `at`
abbrev pub faults_from : Checking → ℕ → Body → List TypeFault
faults_from c at b =
    body_faults (scope_of (flowchart_of c.scope.plan.now)) (flowchart_of c.scope.plan.now).methods c.method at b

-- the faults of one method's statements, which are numbered from 0
abbrev pub method_faults_in : InScope → List ℕ → Body → List TypeFault
method_faults_in s m b = body_faults (scope_of (flowchart_of s.plan.now)) (flowchart_of s.plan.now).methods m 0 b

-- the faults of methods' statements
abbrev pub other_faults_in : InScope → List Routine → List TypeFault
other_faults_in s ms = routine_faults (scope_of (flowchart_of s.plan.now)) (flowchart_of s.plan.now).methods ms
