use Rattle.flowchart_page.proofs.TableLemmas.{cell_written}
use Rattle.flowchart_page.proofs.declarations.write_items.Goals as goal

pub returns : goal.returns
returns c =
    cell_written c.args.items.now c.args.comments.now c.args.page.now c.put.new.self c.write_comments_above.new.page
    c.put-2.new.self c.write_numbered.new.page c.put-3.new.self c.in_ok-put.ensures c.in_ok-write_comments_above.ensures
    c.in_ok-put-2.ensures c.in_ok-write_numbered.ensures c.in_ok-put-3.ensures
