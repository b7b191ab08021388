use Rattle.std.proofs.Common.{map, drop}
use Rattle.pap_tree.specs.Flowchart.{routine_of}
use Rattle.pap_reader.specs.Trees.{raw_routine_of}
use Rattle.plan_text.proofs.ExpressionLemmas.{AreRead}
use Rattle.plan_text.proofs.statements.read_methods.Given as goal

abbrev pub invariant-loop-method : goal.invariant-loop-method
invariant-loop-method l = AreRead (map raw_routine_of l.raw) (map raw_routine_of (drop l.method-index l.raw)) (map routine_of l.methods.items)
