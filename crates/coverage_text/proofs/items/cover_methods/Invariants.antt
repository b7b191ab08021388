use Rattle.std.proofs.Common.{◌≡◌, ◌++◌, drop}
use Rattle.coverage_text.specs.FlowchartItems.{known_in, covered_methods}
use Rattle.coverage_text.proofs.items.cover_methods.Given as goal

abbrev pub invariant-loop-number : goal.invariant-loop-number
invariant-loop-number l =
    l.methods.items
    ++ covered_methods (known_in l.known) l.number (drop l.number l.names) (drop l.number l.listed) (drop l.number l.runs)
    ≡ covered_methods (known_in l.known) 0 l.names l.listed l.runs
