use Rattle.std.proofs.Common.{drop, map}
use Rattle.pap_tree.specs.Declarations.{declaration_of}
use Rattle.pap_types.proofs.DeclarationLemmas.{IsLeft}
use Rattle.pap_types.proofs.declarations.declare.Given as goal

abbrev pub invariant-loop-declaration : goal.invariant-loop-declaration
invariant-loop-declaration l = IsLeft l.fn.earlier l.fn.names l.names (map declaration_of l.declared) (map declaration_of (drop l.declaration-index l.declared))
