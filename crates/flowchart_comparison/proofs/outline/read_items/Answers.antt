use Rattle.flowchart_comparison.proofs.LineLemmas.{items_in_turn}
use Rattle.flowchart_comparison.proofs.outline.read_items.Goals as goal

pub returns : goal.returns
returns c =
    items_in_turn c.args.plan.now c.new-items.result.items c.push_items.new.items.items c.push_items-2.new.items.items
    c.push_items-3.new.items.items c.push_items-4.new.items.items c.deref.result.now c.deref-2.result.now
    c.deref-3.result.now c.deref-4.result.now c.new-items.ensures.items c.deref.ensures.value c.deref-2.ensures.value
    c.deref-3.ensures.value c.deref-4.ensures.value c.in_ok-push_items.ensures c.in_ok-push_items-2.ensures
    c.in_ok-push_items-3.ensures c.in_ok-push_items-4.ensures
