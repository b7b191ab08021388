-- What the private functions answer about the checks of statements.
use Rattle.std.specs.Prelude.{◌≡◌, ℕ, ◌+◌, List, [], ◌∷◌, ◌++◌, is_some, Some, None, Result, Ok, Err}
use Rattle.pap_tree.specs.declared.declaration.Kind.{Kind}
use Rattle.pap_tree.specs.declared.place.Place.{Place}
use Rattle.pap_tree.specs.Term.{Term}
use Rattle.pap_tree.specs.Flowchart.{Body, flowchart_of}
use Rattle.pap_tree.specs.Statements.{written}
use Rattle.pap_types.specs.declared.fault.TypeFault.{TypeFault}
use Rattle.pap_types.specs.declared.fault.TypeFault.TheVariants as faults
use Rattle.pap_types.specs.declared.nodes.Statement.{Statement}
use Rattle.pap_types.specs.declared.statements.Checking.{Checking}
use Rattle.pap_types.specs.Scopes.{Scope, scope_of, declaration_in}
use Rattle.pap_types.specs.NumberedNames.{IsNumbered}
use Rattle.pap_types.specs.Routines.{body_named}
use Rattle.pap_types.specs.Checks.{Check, check, first_fault, place, target_kind, eval_checks, test_checks, body_checks}
use Rattle.pap_types.specs.private.CheckViews.{scope_of_statement}

-- the checks pass, or this is the fault of the first that doesn't
abbrev pub IsVerdict : List Check → Result (Unit {0}) TypeFault → Type 0
IsVerdict cs (Ok u) = first_fault cs ≡ None
IsVerdict cs (Err f) = first_fault cs ≡ Some f

-- ---- one statement

-- the checks of an assignment's target, before those of its nodes
abbrev pub target_checks : Scope → List ℕ → Place → List Check
target_checks scope x last =
    check (is_some (declaration_in scope x)) (faults.Unknown x last)
    ∷ (check (is_some (target_kind scope x)) (faults.ConstantWritten last) ∷ [])

-- the type of the variable that is assigned to
abbrev pub TargetAnswer : Scope → List ℕ → Place → Result Kind TypeFault → Type 0
TargetAnswer scope x last (Ok k) = target_kind scope x ≡ Some k
TargetAnswer scope x last (Err f) = first_fault (target_checks scope x last) ≡ Some f

-- what is wrong with a target that is no variable
abbrev pub IsWrongTarget : Scope → List ℕ → Place → TypeFault → Type 0
IsWrongTarget scope x last f = target_kind scope x ≡ None → first_fault (target_checks scope x last) ≡ Some f

abbrev pub place_in : Statement → ℕ → Place
place_in s node = place s.method s.number node

abbrev pub eval_checks_in : Statement → List ℕ → Term → List Check
eval_checks_in s x e = eval_checks (scope_of_statement s) (flowchart_of s.scope.plan.now).methods s.method s.number x e

abbrev pub test_checks_in : Statement → Term → List Check
test_checks_in s t = test_checks (scope_of_statement s) (flowchart_of s.scope.plan.now).methods s.method s.number t

-- the check of an execution
abbrev pub execute_checks_in : Statement → List ℕ → List Check
execute_checks_in s x =
    check (is_some (body_named (flowchart_of s.scope.plan.now).methods x)) (faults.NoMethod (place_in s 0)) ∷ []

-- ---- lists of statements

abbrev pub AreNumbered : Checking → Type 0
AreNumbered c = IsNumbered c.scope.plan.now c.scope.names.now

-- the statement of a number
abbrev pub statement_of : Checking → ℕ → Statement
statement_of c number = record { scope = c.scope; method = c.method; number = number }

-- the checks of statements that are numbered from `at`
abbrev pub checks_from : Checking → ℕ → Body → List Check
checks_from c at b =
    body_checks (scope_of (flowchart_of c.scope.plan.now)) (flowchart_of c.scope.plan.now).methods c.method at b

-- the statements pass, and this is the number that follows theirs; or their first fault
abbrev pub BodyAnswer : Checking → ℕ → Body → Result ℕ TypeFault → Type 0
BodyAnswer c at b (Ok next) = (first_fault (checks_from c at b) ≡ None) × (next ≡ at + written b)
BodyAnswer c at b (Err f) = first_fault (checks_from c at b) ≡ Some f

-- the same of the two lists of a branch
abbrev pub checks_of_branches : Checking → ℕ → Body → Body → List Check
checks_of_branches c at a b = checks_from c at a ++ checks_from c (at + written a) b

abbrev pub BranchesAnswer : Checking → ℕ → Body → Body → Result ℕ TypeFault → Type 0
BranchesAnswer c at a b (Ok next) = (first_fault (checks_of_branches c at a b) ≡ None) × (next ≡ at + written a + written b)
BranchesAnswer c at a b (Err f) = first_fault (checks_of_branches c at a b) ≡ Some f
