-- What the private functions answer about the checks of a part of a plan.
use Rattle.std.specs.Prelude.{◌≡◌, ℕ, ◌+◌, List, [], ◌∷◌, ◌++◌, Bool, Some, None, Result, Ok, Err}
use Rattle.pap_tree.specs.Term.{Term}
use Rattle.pap_tree.specs.Numbering.{nodes}
use Rattle.pap_tree.specs.Flowchart.{flowchart_of}
use Rattle.pap_types.specs.declared.fault.TypeFault.{TypeFault}
use Rattle.pap_types.specs.declared.fault.TypeFault.TheVariants.{Kind}
use Rattle.pap_types.specs.declared.kinds.NodeKind.{NodeKind}
use Rattle.pap_types.specs.declared.nodes.Checked.{Checked}
use Rattle.pap_types.specs.declared.nodes.Operands.{Operands}
use Rattle.pap_types.specs.declared.nodes.Statement.{Statement}
use Rattle.pap_types.specs.Scopes.{Scope, scope_of}
use Rattle.pap_types.specs.NumberedNames.{IsNumbered}
use Rattle.pap_types.specs.Kinds.{kind_of}
use Rattle.pap_types.specs.Checks.{Check, check, first_fault, node_checks, place}

abbrev pub scope_of_statement : Statement → Scope
scope_of_statement s = scope_of (flowchart_of s.scope.plan.now)

abbrev pub HasNumbers : Statement → Type 0
HasNumbers s = IsNumbered s.scope.plan.now s.scope.names.now

-- the checks of an expression in a statement
abbrev pub checks_in : Statement → Term → ℕ → List Check
checks_in s t at = node_checks (scope_of_statement s) (place s.method s.number) t at

-- an expression whose nodes are numbered from `at` passes its checks, and has this kind; or its first fault
abbrev pub NodesAnswer : Statement → Term → ℕ → Result Checked TypeFault → Type 0
NodesAnswer s t at (Ok c) =
    (first_fault (checks_in s t at) ≡ None) × (c.kind ≡ kind_of (scope_of_statement s) t) × (c.next ≡ at + nodes t)
NodesAnswer s t at (Err f) = first_fault (checks_in s t at) ≡ Some f

-- the checks of two operands, the second of which is numbered behind the first
abbrev pub checks_of_two : Statement → Term → Term → ℕ → List Check
checks_of_two s a b at = checks_in s a at ++ checks_in s b (at + nodes a)

abbrev pub PairAnswer : Statement → Term → Term → ℕ → Result Operands TypeFault → Type 0
PairAnswer s a b at (Ok both) =
    (first_fault (checks_of_two s a b at) ≡ None)
    × (both.first.kind ≡ kind_of (scope_of_statement s) a)
    × (both.second.kind ≡ kind_of (scope_of_statement s) b)
    × (both.second.next ≡ at + nodes a + nodes b)
PairAnswer s a b at (Err f) = first_fault (checks_of_two s a b at) ≡ Some f

-- one node passes its own check, and has this kind; or it is of the wrong kind
abbrev pub OwnAnswer : Statement → Bool → NodeKind → ℕ → Result Checked TypeFault → Type 0
OwnAnswer s passes kind at (Ok c) =
    (first_fault (check passes (Kind (place s.method s.number at)) ∷ []) ≡ None) × (c.kind ≡ kind) × (c.next ≡ at + 1)
OwnAnswer s passes kind at (Err f) = first_fault (check passes (Kind (place s.method s.number at)) ∷ []) ≡ Some f
