use Rattle.std.proofs.Common.{[], ◌∷◌, map, drop}
use Rattle.pap_tree.specs.Flowchart.{routine_of}
use Rattle.pap_tree.specs.Names.{main_name}
use Rattle.pap_types.specs.private.FaultViews.{as_declaration}
use Rattle.pap_types.proofs.NameFaultLemmas.{NamesGoOn}
use Rattle.pap_types.proofs.fault_list.FaultFinder.find_named.Given as goal

abbrev pub invariant-loop-method : goal.invariant-loop-method
invariant-loop-method l =
    NamesGoOn (main_name ∷ []) l.fn.names l.names l.fn.self.faults.items l.self.faults.items (map as_declaration (map routine_of l.methods))
    (map as_declaration (map routine_of (drop l.method-index l.methods)))
