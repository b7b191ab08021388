use Rattle.std.proofs.Common.{◌≡◌, map, take}
use Rattle.pap_tree.specs.Declarations.{declaration_of}
use Rattle.pap_types.specs.Scopes.{names_of}
use Rattle.flowchart_findings.proofs.name_sets.declared_names.Given as goal

abbrev pub invariant-loop-declaration : goal.invariant-loop-declaration
invariant-loop-declaration l = l.names.items ≡ names_of (map declaration_of (take l.declaration-index l.declared))
