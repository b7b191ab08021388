use Rattle.std.proofs.Common.{drop, map}
use Rattle.pap_tree.specs.Flowchart.{routine_of}
use Rattle.pap_types.proofs.MethodLemmas.{AreLeft}
use Rattle.pap_types.proofs.declarations.name_methods.Given as goal

abbrev pub invariant-loop-method : goal.invariant-loop-method
invariant-loop-method l = AreLeft l.fn.names l.names (map routine_of l.methods) (map routine_of (drop l.method-index l.methods))
