use Rattle.pap_reader.specs.Trees.{tree_of}
use Rattle.flowchart_page.specs.private.TableViews.{source_of}
use Rattle.flowchart_page.proofs.TableLemmas.{table_inside}
use Rattle.flowchart_page.proofs.declarations.write_declarations.Goals as goal

pub returns : goal.returns
returns c =
    table_inside (source_of c.args.declarations) (tree_of c.args.declarations.elements.now) _ _ c.args.page.now
    c.append-2.new.self c.write_table.new.page c.append-4.new.self c.in_ok-append.ensures c.in_ok-write_table.ensures
    c.in_ok-append-2.ensures
