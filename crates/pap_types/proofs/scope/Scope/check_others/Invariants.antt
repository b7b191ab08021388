use Rattle.std.proofs.Common.{drop, map}
use Rattle.pap_tree.specs.Flowchart.{routine_of}
use Rattle.pap_types.proofs.MethodLemmas.{AreUnderWay}
use Rattle.pap_types.proofs.scope.Scope.check_others.Given as goal

abbrev pub invariant-loop-method : goal.invariant-loop-method
invariant-loop-method l = AreUnderWay l.self (map routine_of l.methods) (map routine_of (drop l.method-index l.methods))
