use Rattle.std.proofs.Common.{◌≡◌, ◌++◌, take, map}
use Rattle.pap_tree.specs.Declarations.{declaration_of}
use Rattle.pap_types.specs.Scopes.{first_value}
use Rattle.run_values.proofs.values.push_first.Given as goal

abbrev pub invariant-loop-variable : goal.invariant-loop-variable
invariant-loop-variable l =
    l.values.items ≡ l.initial.values.items ++ map first_value (map declaration_of (take l.variable-index l.variables))
