use Rattle.std.proofs.Common.{map, drop}
use Rattle.pap_reader.specs.Trees.{raw_declaration_of}
use Rattle.plan_text.specs.Sites.{declared_sites}
use Rattle.diagnostics.proofs.FindLemmas.{GoesOn}
use Rattle.diagnostics.proofs.expressions.FaultFinder.find_declared.Given as goal

abbrev pub invariant-loop-declaration : goal.invariant-loop-declaration
invariant-loop-declaration l =
    GoesOn (declared_sites (map raw_declaration_of l.raw)) (declared_sites (map raw_declaration_of (drop l.declaration-index l.raw)))
    l.initial.self.faults.items l.self.faults.items
