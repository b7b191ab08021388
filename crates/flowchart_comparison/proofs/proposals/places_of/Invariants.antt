use Rattle.flowchart_comparison.specs.Comparisons.{item_names}
use Rattle.flowchart_comparison.specs.private.NameViews.{ArePlaces, place_in}
use Rattle.flowchart_comparison.proofs.proposals.places_of.Given as goal

abbrev pub invariant-loop-place : goal.invariant-loop-place
invariant-loop-place l = ArePlaces (item_names l.items) l.place (place_in l.places)
