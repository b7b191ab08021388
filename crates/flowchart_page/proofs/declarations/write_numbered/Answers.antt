use Rattle.flowchart_page.proofs.TableLemmas.{items_more}
use Rattle.flowchart_page.proofs.declarations.write_numbered.Goals as goal

pub loop-i-preserved : goal.loop-i-preserved
loop-i-preserved c =
    items_more c.args.items.now c.loop-i.i c.index-items-i.result c.args.page.now c.loop-i.page c.write_item.new.page
    c.loop-i-test.true c.index-items-i.is c.loop-i.invariant c.in_ok-write_item.ensures
