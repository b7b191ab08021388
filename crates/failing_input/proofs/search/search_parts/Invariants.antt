use Rattle.pap_tree.specs.Flowchart.{flowchart_of}
use Rattle.failing_input.specs.private.PartViews.{IsSearched}
use Rattle.failing_input.proofs.search.search_parts.Given as goal

abbrev pub invariant-loop-turn : goal.invariant-loop-turn
invariant-loop-turn l =
    IsSearched (flowchart_of l.t) l.limits l.known.done.items l.known.left.items
