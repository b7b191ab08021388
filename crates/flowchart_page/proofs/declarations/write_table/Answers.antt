use Rattle.flowchart_page.specs.private.TableViews.{source_of}
use Rattle.flowchart_page.proofs.TableLemmas.{table_added}
use Rattle.flowchart_page.proofs.declarations.write_table.Goals as goal

pub returns : goal.returns
returns c =
    table_added (source_of c.args.declarations) c.args.declarations.elements.now c.deref.result.now c.deref-2.result.now
    c.deref-3.result.now c.deref-4.result.now c.args.page.now c.write_group.new.page c.write_group-2.new.page
    c.write_group-3.new.page c.write_group-4.new.page c.deref.ensures.value c.deref-2.ensures.value c.deref-3.ensures.value
    c.deref-4.ensures.value c.in_ok-write_group.ensures c.in_ok-write_group-2.ensures c.in_ok-write_group-3.ensures
    c.in_ok-write_group-4.ensures
