-- What the private functions know of the names of a plan.
use Rattle.std.specs.Prelude.{◌≡◌, ℕ, ◌+◌, ◌<◌, ◌^◌, List, length}
use Rattle.pap_tree.specs.Flowchart.{Flowchart, flowchart_of}
use Rattle.pap_types.specs.Scopes.{Scope, scope_of}
use Rattle.pap_compiler.specs.declared.names.Names.{Names}
use Rattle.pap_compiler.specs.CodeDecisions.{entries_from, entry, first_method}

abbrev pub plan_in : Names → Flowchart
plan_in n = flowchart_of n.typed.now

abbrev pub scope_of_names : Names → Scope
scope_of_names n = scope_of (plan_in n)

-- the methods have their places; the names are few
pub record IsMade (n : Names) : Type 0 where
  pub entries : n.entries.now ≡ entries_from (first_method (plan_in n)) (plan_in n).methods
  pub few : length (scope_of_names n).variables + length (scope_of_names n).constants < 2 ^ 32

-- the first instruction of the method of a name
abbrev pub entry_in : Names → List ℕ → ℕ
entry_in n = entry (first_method (plan_in n)) (plan_in n).methods
