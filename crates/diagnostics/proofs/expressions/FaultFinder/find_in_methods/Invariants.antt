use Rattle.std.proofs.Common.{◌≤◌, map, drop}
use Rattle.pap_reader.specs.Trees.{raw_routine_of}
use Rattle.pap_reader.specs.TreeLimits.{methods_written}
use Rattle.plan_text.specs.Sites.{routine_sites}
use Rattle.diagnostics.proofs.FindLemmas.{GoesOn}
use Rattle.diagnostics.proofs.expressions.FaultFinder.find_in_methods.Given as goal

abbrev pub invariant-loop-method : goal.invariant-loop-method
invariant-loop-method l =
    GoesOn (routine_sites (map raw_routine_of l.raw)) (routine_sites (map raw_routine_of (drop l.method-index l.raw)))
    l.initial.self.faults.items l.self.faults.items
    × (methods_written (map raw_routine_of (drop l.method-index l.raw)) ≤ methods_written (map raw_routine_of l.raw))
