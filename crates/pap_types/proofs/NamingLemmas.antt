-- The names of a whole plan: variables, constants, methods.
use Rattle.std.proofs.Common.{◌≡◌, ℕ, List, [], ◌∷◌, ◌++◌, Some, None, Result, Ok, Err, sym, ap, ap₂, ◌∙◌}
use Rattle.std.specs.Result.{IsErrAnd, IfErr}
use Rattle.std.proofs.lemmas.List.{append-nil, append_assoc}
use Rattle.pap_tree.specs.declared.plan.PlanText.{PlanText}
use Rattle.pap_tree.specs.Declarations.{Declaration}
use Rattle.pap_tree.specs.Flowchart.{Routine, Flowchart, flowchart_of}
use Rattle.pap_types.specs.declared.fault.TypeFault.{TypeFault}
use Rattle.pap_types.specs.declared.fault.TypeFault.TheVariants as faults
use Rattle.pap_types.specs.declared.scope.Names.{Names}
use Rattle.pap_types.specs.Scopes.{names_of, variables_of}
use Rattle.pap_types.specs.Routines.{method_names}
use Rattle.pap_tree.specs.Names.{main_name}
use Rattle.pap_types.specs.Checks.{first_fault, declaration_checks, method_checks, checks_of, type_fault}
use Rattle.pap_types.specs.Faults.{IsTypeFault}
use Rattle.pap_types.specs.private.DeclarationViews.{AreDeclared, UnlessMemory}
use Rattle.pap_types.specs.private.PlanViews.{name_checks, statement_checks, AreMethodNames, IsFilled}
use Rattle.pap_types.proofs.CheckLemmas.{past, front}
use Rattle.pap_types.proofs.DeclarationLemmas.{unless_memory}

-- a fault that a call before has answered
pub of_call : (plan : PlanText) (names : Names) (r : Result (Unit {0}) TypeFault) (f : TypeFault) → UnlessMemory f (first_fault (name_checks (flowchart_of plan)) ≡ Some f) → IsErrAnd r (λ y. y ≡ f) → IsFilled plan names r
of_call plan names (Ok u) f h is = absurd is
of_call plan names (Err g) f h is = rw is h

module _ (f : Flowchart) (none old variables : List (List ℕ)) (n : none ≡ []) (o : old ≡ []) where
  -- the checks of the declarations, as those of the variables and then the constants
  whole : first_fault (declaration_checks [] (f.inputs ++ (f.outputs ++ (f.internals ++ f.constants)))) ≡ first_fault (declaration_checks (none ++ old) (variables_of f ++ f.constants))
  whole =
      ap (λ ds. first_fault (declaration_checks [] (f.inputs ++ ds))) (sym (append_assoc f.outputs f.internals f.constants))
      ∙ ap (λ ds. first_fault (declaration_checks [] ds)) (sym (append_assoc f.inputs (f.outputs ++ f.internals) f.constants))
      ∙ ap₂ (λ a b. first_fault (declaration_checks (a ++ b) (variables_of f ++ f.constants))) (sym n) (sym o)

  pub variables_fail : (g : TypeFault) → AreDeclared none old variables (variables_of f) (Err g) → UnlessMemory g (first_fault (name_checks f) ≡ Some g)
  variables_fail g h =
      unless_memory g _ _ (λ (k : (rest : List Declaration) → first_fault (declaration_checks (none ++ old) (variables_of f ++ rest)) ≡ Some g). front (declaration_checks [] (f.inputs ++ (f.outputs ++ (f.internals ++ f.constants)))) _ g (whole ∙ k f.constants)) h

  module _ (passed : AreDeclared none old variables (variables_of f) (Ok tt)) (before constants : List (List ℕ)) (b : before ≡ []) where
    -- where the variables pass, the checks of the constants are left
    constants_left : first_fault (declaration_checks [] (f.inputs ++ (f.outputs ++ (f.internals ++ f.constants)))) ≡ first_fault (declaration_checks (variables ++ before) (f.constants ++ []))
    constants_left =
        whole
        ∙ passed.1 f.constants
        ∙ ap (λ a. first_fault (declaration_checks (a ++ variables) f.constants)) n
        ∙ ap₂ (λ a ds. first_fault (declaration_checks a ds)) (sym (append-nil variables) ∙ ap (λ a. variables ++ a) (sym b)) (sym (append-nil f.constants))

    pub constants_fail : (g : TypeFault) → AreDeclared variables before constants f.constants (Err g) → UnlessMemory g (first_fault (name_checks f) ≡ Some g)
    constants_fail g h =
        unless_memory g _ _ (λ (k : (rest : List Declaration) → first_fault (declaration_checks (variables ++ before) (f.constants ++ rest)) ≡ Some g). front (declaration_checks [] (f.inputs ++ (f.outputs ++ (f.internals ++ f.constants)))) _ g (constants_left ∙ k [])) h

    module _ (passed_too : AreDeclared variables before constants f.constants (Ok tt)) (start methods : List (List ℕ)) (s : start ≡ []) where
      all_declared : first_fault (declaration_checks [] (f.inputs ++ (f.outputs ++ (f.internals ++ f.constants)))) ≡ None
      all_declared = constants_left ∙ passed_too.1 []

      methods_left : first_fault (name_checks f) ≡ first_fault (method_checks (main_name ∷ start) f.methods)
      methods_left =
          past (declaration_checks [] (f.inputs ++ (f.outputs ++ (f.internals ++ f.constants)))) _ all_declared
          ∙ ap (λ a. first_fault (method_checks (main_name ∷ a) f.methods)) (sym s)

      pub methods_fail : (g : TypeFault) → UnlessMemory g (first_fault (method_checks (main_name ∷ start) f.methods) ≡ Some g) → UnlessMemory g (first_fault (name_checks f) ≡ Some g)
      methods_fail g h = unless_memory g _ _ (λ k. methods_left ∙ k) h

      pub names_pass : first_fault (method_checks (main_name ∷ start) f.methods) ≡ None → first_fault (name_checks f) ≡ None
      names_pass k = methods_left ∙ k

-- all names of a plan
pub filled : (plan : PlanText) (names : Names) (none old before start : List (List ℕ)) (ms : List Routine) → none ≡ [] → old ≡ [] → before ≡ [] → start ≡ [] → ms ≡ (flowchart_of plan).methods → AreDeclared none old names.variables (variables_of (flowchart_of plan)) (Ok tt) → AreDeclared names.variables before names.constants (flowchart_of plan).constants (Ok tt) → (r : Result (Unit {0}) TypeFault) → AreMethodNames start names.methods ms r → IsFilled plan names r
filled plan names none old before start ms n o b s same v c (Ok u) m =
    let f = flowchart_of plan in (
      record {
        variables = v.0 ∙ ap (λ a. a ++ names_of (variables_of f)) o;
        constants = c.0 ∙ ap (λ a. a ++ names_of f.constants) b;
        methods = m.0 ∙ ap₂ (λ a l. a ++ method_names l) s same;
      },
      names_pass f none old names.variables n o v before names.constants b c start names.methods s (ap (λ l. first_fault (method_checks (main_name ∷ start) l)) (sym same) ∙ m.1),
    )
filled plan names none old before start ms n o b s same v c (Err g) m =
    let f = flowchart_of plan in
    methods_fail f none old names.variables n o v before names.constants b c start names.methods s g (unless_memory g _ _ (λ k. ap (λ l. first_fault (method_checks (main_name ∷ start) l)) (sym same) ∙ k) m)

-- ---- the whole plan

pub whole_checks : (f : Flowchart) → first_fault (checks_of f) ≡ first_fault (name_checks f ++ statement_checks f)
whole_checks f =
    ap first_fault (sym (append_assoc (declaration_checks [] (f.inputs ++ (f.outputs ++ (f.internals ++ f.constants)))) (method_checks (main_name ∷ []) f.methods) (statement_checks f)))

as_fault : (f : Flowchart) (g : TypeFault) → UnlessMemory g (type_fault f ≡ Some g) → IsTypeFault f g
as_fault f (faults.Memory e) h = tt
as_fault f (faults.Twice x) h = h
as_fault f (faults.Unknown x p) h = h
as_fault f (faults.Kind p) h = h
as_fault f (faults.ConstantWritten p) h = h
as_fault f (faults.NoMethod p) h = h
as_fault f (faults.Value x) h = h

pub always : (g : TypeFault) (P : Type 0) → P → UnlessMemory g P
always (faults.Memory e) P h = tt
always (faults.Twice x) P h = h
always (faults.Unknown x p) P h = h
always (faults.Kind p) P h = h
always (faults.ConstantWritten p) P h = h
always (faults.NoMethod p) P h = h
always (faults.Value x) P h = h

-- a fault of the names, or of the statements where the names pass
pub fault_of_names : (f : Flowchart) (g : TypeFault) → UnlessMemory g (first_fault (name_checks f) ≡ Some g) → IsTypeFault f g
fault_of_names f g h = as_fault f g (unless_memory g _ _ (λ k. whole_checks f ∙ front (name_checks f) _ g k) h)

pub fault_of_statements : (f : Flowchart) (g : TypeFault) → first_fault (name_checks f) ≡ None → first_fault (statement_checks f) ≡ Some g → IsTypeFault f g
fault_of_statements f g passed h = as_fault f g (always g _ (whole_checks f ∙ past (name_checks f) _ passed ∙ h))

-- all checks pass where both parts pass
pub all_pass : (f : Flowchart) → first_fault (name_checks f) ≡ None → first_fault (statement_checks f) ≡ None → type_fault f ≡ None
all_pass f passed h = whole_checks f ∙ past (name_checks f) _ passed ∙ h

pub fault_answer : {A : Type 0} (f : Flowchart) (r : Result A TypeFault) (g : TypeFault) → IsTypeFault f g → IsErrAnd r (λ y. y ≡ g) → IfErr r (IsTypeFault f)
fault_answer f (Ok a) g h is = absurd is
fault_answer f (Err y) g h is = rw is h
