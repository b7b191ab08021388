use Rattle.flowchart_comparison.specs.Comparisons.{item_names}
use Rattle.flowchart_comparison.specs.private.NameViews.{AreGone, place_in}
use Rattle.flowchart_comparison.proofs.proposals.gone_texts.Given as goal

abbrev pub invariant-loop-place : goal.invariant-loop-place
invariant-loop-place l = AreGone (item_names l.items) (place_in l.names) (place_in l.gone)
