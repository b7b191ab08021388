use Rattle.std.proofs.Common.{◌≡◌, ◌++◌, map, drop}
use Rattle.pap_tree.specs.Declarations.{declaration_of}
use Rattle.pap_types.specs.Scopes.{first_value}
use Rattle.pap_compiler.proofs.values.push_values.Given as goal

abbrev pub invariant-loop-declaration : goal.invariant-loop-declaration
invariant-loop-declaration l =
    l.values.items ++ map first_value (map declaration_of (drop l.declaration-index l.declared)) ≡ l.initial.values.items ++ map first_value (map declaration_of l.declared)
