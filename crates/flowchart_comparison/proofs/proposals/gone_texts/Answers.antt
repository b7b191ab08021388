use Rattle.flowchart_comparison.specs.Comparisons.{item_names}
use Rattle.flowchart_comparison.specs.private.NameViews.{place_in}
use Rattle.flowchart_comparison.proofs.NameLemmas.{gone_none, place_none}
use Rattle.flowchart_comparison.proofs.proposals.gone_texts.Goals as goal

pub loop-place-init : goal.loop-place-init
loop-place-init c =
    gone_none (item_names c.args.items.now) (place_in c.args.names.now) (place_in c.new-gone.result)
    (place_none c.new-gone.result c.new-gone.ensures.empty)

pub loop-place-preserved : goal.loop-place-preserved
loop-place-preserved c = c.in_ok-add_gone.ensures c.loop-place.invariant
