-- What private contracts cite beside the definitions of NumberedNames.
use Rattle.std.specs.Prelude.{ℕ, List}
use Rattle.pap_tree.specs.declared.plan.PlanText.{PlanText}
use Rattle.pap_tree.specs.Flowchart.{flowchart_of}
use Rattle.pap_types.specs.Scopes.{Scope, scope_of, variables_of, names_of}

abbrev pub scope_in : PlanText → Scope
scope_in p = scope_of (flowchart_of p)

-- the names of the variables in the order of their numbers
abbrev pub variables_in : PlanText → List (List ℕ)
variables_in p = names_of (variables_of (flowchart_of p))
