use Rattle.std.proofs.Common.{◌≡◌, map, take}
use Rattle.flowchart_comparison.specs.Outlines.{TextItem}
use Rattle.flowchart_comparison.specs.private.NameViews.{place_in}
use Rattle.flowchart_comparison.proofs.proposals.same_names.Given as goal

abbrev pub invariant-loop-item : goal.invariant-loop-item
invariant-loop-item l = l.proposed.items ≡ map (λ (x : TextItem). place_in l.places x.name) (take l.item-index l.new)
