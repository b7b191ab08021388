use Rattle.std.proofs.Common.{◌≡◌, ◌++◌, map, drop}
use Rattle.pap_tree.specs.Declarations.{declaration_of}
use Rattle.pap_types.specs.Scopes.{declared_table}
use Rattle.pap_compiler.proofs.values.push_tables.Given as goal

abbrev pub invariant-loop-declaration : goal.invariant-loop-declaration
invariant-loop-declaration l =
    map (λ t. t.items) l.tables.items ++ map (λ d. declared_table d.value) (map declaration_of (drop l.declaration-index l.declared))
    ≡ map (λ t. t.items) l.initial.tables.items ++ map (λ d. declared_table d.value) (map declaration_of l.declared)
