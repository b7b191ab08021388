use Rattle.std.proofs.Common.{map}
use Rattle.flowchart_markup.specs.Fragments.{fill_text}
use Rattle.flowchart_markup.proofs.FillLemmas.{fill_more, index_more, index_few}
use Rattle.flowchart_markup.proofs.fill.push_filled.Goals as goal

pub loop-byte-preserved : goal.loop-byte-preserved
loop-byte-preserved c =
    let i = c.loop-byte.invariant in
    let at = c.loop-byte.byte-index in
    let template = c.args.template.now in
    let next = c.index_behind-index.result in
    record {
      page = fill_more template (map fill_text c.args.fills.now) at c.loop-byte.index c.args.page.now.items c.loop-byte.page.items
          c.push_byte_filled.new.page.items c.loop-byte-test.true i.index i.page c.in_ok-push_byte_filled.ensures;
      index = index_more template at c.loop-byte.index next c.loop-byte-test.true i.index c.index_behind-index.ensures;
      few = index_few at c.loop-byte.index next _ i.few c.index_behind-index.ensures;
    }
