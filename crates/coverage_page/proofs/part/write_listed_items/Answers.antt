use Rattle.coverage_text.proofs.Laws.{one_more}
use Rattle.coverage_page.specs.CoverageParts.{tested_entry}
use Rattle.coverage_page.specs.private.ItemLists.{is_in_list}
use Rattle.coverage_page.proofs.part.write_listed_items.Goals as goal

pub loop-item-preserved : goal.loop-item-preserved
loop-item-preserved c =
    one_more (tested_entry (is_in_list c.args.list) c.args.name) c.args.items.now c.loop-item.item-index c.item-item.result c.args.entries.now c.loop-item.entries
    c.write_listed_item.new.entries c.item-item.is c.loop-item-test.true c.loop-item.invariant c.in_ok-write_listed_item.ensures
