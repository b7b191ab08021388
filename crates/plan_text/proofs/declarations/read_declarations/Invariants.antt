use Rattle.std.proofs.Common.{map, drop}
use Rattle.pap_tree.specs.Declarations.{declaration_of}
use Rattle.pap_reader.specs.Trees.{raw_declaration_of}
use Rattle.plan_text.proofs.DeclarationLemmas.{AreRead}
use Rattle.plan_text.proofs.declarations.read_declarations.Given as goal

abbrev pub invariant-loop-declaration : goal.invariant-loop-declaration
invariant-loop-declaration l = AreRead (map raw_declaration_of l.raw) (map raw_declaration_of (drop l.declaration-index l.raw)) (map declaration_of l.read.items)
