use Rattle.std.proofs.Common.{drop, map}
use Rattle.pap_tree.specs.Flowchart.{routine_of}
use Rattle.pap_types.proofs.StatementFaultLemmas.{AreFoundSoFar}
use Rattle.pap_types.proofs.fault_list.FaultFinder.find_in_methods.Given as goal

abbrev pub invariant-loop-method : goal.invariant-loop-method
invariant-loop-method l =
    AreFoundSoFar l.scope l.fn.self.faults.items l.self.faults.items (map routine_of l.methods) (map routine_of (drop l.method-index l.methods))
