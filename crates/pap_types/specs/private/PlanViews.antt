-- What the private functions answer about the names and the statements of a whole plan.
use Rattle.std.specs.Prelude.{◌≡◌, ℕ, List, [], ◌∷◌, ◌++◌, None, Some, Result, Ok, Err}
use Rattle.pap_tree.specs.declared.plan.PlanText.{PlanText}
use Rattle.pap_tree.specs.Flowchart.{Body, Routine, Flowchart, flowchart_of}
use Rattle.pap_types.specs.declared.fault.TypeFault.{TypeFault}
use Rattle.pap_types.specs.declared.scope.Names.{Names}
use Rattle.pap_types.specs.declared.scope.Scope.{Scope as InScope}
use Rattle.pap_types.specs.Scopes.{scope_of}
use Rattle.pap_types.specs.Routines.{method_names}
use Rattle.pap_tree.specs.Names.{main_name}
use Rattle.pap_types.specs.NumberedNames.{IsNumbered}
use Rattle.pap_types.specs.Checks.{Check, first_fault, declaration_checks, method_checks, body_checks, routine_checks}
use Rattle.pap_types.specs.private.DeclarationViews.{UnlessMemory}

-- the checks of a plan's names, and those of its statements
abbrev pub name_checks : Flowchart → List Check
name_checks f =
    declaration_checks [] (f.inputs ++ (f.outputs ++ (f.internals ++ f.constants))) ++ method_checks (main_name ∷ []) f.methods

abbrev pub statement_checks : Flowchart → List Check
statement_checks f =
    body_checks (scope_of f) f.methods main_name 0 f.main ++ routine_checks (scope_of f) f.methods f.methods

-- those of one method's
abbrev pub method_checks_in : InScope → List ℕ → Body → List Check
method_checks_in s m b = body_checks (scope_of (flowchart_of s.plan.now)) (flowchart_of s.plan.now).methods m 0 b

abbrev pub other_checks_in : InScope → List Routine → List Check
other_checks_in s ms = routine_checks (scope_of (flowchart_of s.plan.now)) (flowchart_of s.plan.now).methods ms

-- the names of methods pass behind earlier ones, and stand behind them; or the first fault
abbrev pub AreMethodNames : List (List ℕ) → List (List ℕ) → List Routine → Result (Unit {0}) TypeFault → Type 0
AreMethodNames old new ms (Ok u) =
    (new ≡ old ++ method_names ms) × (first_fault (method_checks (main_name ∷ old) ms) ≡ None)
AreMethodNames old new ms (Err f) = UnlessMemory f (first_fault (method_checks (main_name ∷ old) ms) ≡ Some f)

-- no name has a number
pub record AreEmpty (names : Names) : Type 0 where
  pub variables : names.variables ≡ []
  pub constants : names.constants ≡ []
  pub methods : names.methods ≡ []

abbrev pub IsFilled : PlanText → Names → Result (Unit {0}) TypeFault → Type 0
IsFilled plan names (Ok u) = IsNumbered plan names × (first_fault (name_checks (flowchart_of plan)) ≡ None)
IsFilled plan names (Err f) = UnlessMemory f (first_fault (name_checks (flowchart_of plan)) ≡ Some f)

-- all names of a plan pass, and are numbered; or the first fault
abbrev pub IsNamed : PlanText → Result Names TypeFault → Type 0
IsNamed plan (Ok names) = IsNumbered plan names × (first_fault (name_checks (flowchart_of plan)) ≡ None)
IsNamed plan (Err f) = UnlessMemory f (first_fault (name_checks (flowchart_of plan)) ≡ Some f)
