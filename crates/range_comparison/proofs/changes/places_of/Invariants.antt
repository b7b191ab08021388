use Rattle.range_comparison.specs.private.EntryViews.{ArePlacesFrom}
use Rattle.range_comparison.proofs.changes.places_of.Given as goal

abbrev pub invariant-loop-place : goal.invariant-loop-place
invariant-loop-place l = ArePlacesFrom l.place l.entries l.places
