use Rattle.std.proofs.Common.{map, ap, ◌∙◌, arith}
use Rattle.std.proofs.lemmas.List.{take_all}
use Rattle.flowchart_comparison.specs.Outlines.{TextItem}
use Rattle.flowchart_comparison.specs.private.NameViews.{place_in}
use Rattle.flowchart_comparison.proofs.NameLemmas.{proposed_names}
use Rattle.flowchart_comparison.proofs.proposals.same_names.Goals as goal

pub returns : goal.returns
returns c =
    proposed_names c.args.old.now c.args.new.now (place_in c.in_ok-places.places) c.loop-item.proposed.items
    c.in_ok-places.ensures
    (c.loop-item.invariant
    ∙ ap (map (λ (x : TextItem). place_in c.in_ok-places.places x.name))
    (take_all c.loop-item.item-index c.args.new.now (omega arith)))
