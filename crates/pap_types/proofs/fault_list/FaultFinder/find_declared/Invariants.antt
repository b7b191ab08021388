use Rattle.std.proofs.Common.{map, drop}
use Rattle.pap_tree.specs.Declarations.{declaration_of}
use Rattle.pap_types.proofs.NameFaultLemmas.{NamesGoOn}
use Rattle.pap_types.proofs.fault_list.FaultFinder.find_declared.Given as goal

abbrev pub invariant-loop-declaration : goal.invariant-loop-declaration
invariant-loop-declaration l =
    NamesGoOn l.earlier l.fn.names l.names l.fn.self.faults.items l.self.faults.items (map declaration_of l.declared)
    (map declaration_of (drop l.declaration-index l.declared))
