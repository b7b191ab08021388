use Rattle.flowchart_comparison.specs.private.AlignmentViews.{AreFlags}
use Rattle.flowchart_comparison.proofs.pairing.all_free.Given as goal

abbrev pub invariant-loop : goal.invariant-loop
invariant-loop l = AreFlags l.counter l.free.items
