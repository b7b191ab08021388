use Rattle.std.proofs.Common.{sym, ◌∙◌}
use Rattle.flowchart_page.proofs.TableLemmas.{above_written}
use Rattle.flowchart_page.proofs.declarations.write_comments_above.Goals as goal

pub returns : goal.returns
returns c =
    above_written c.args.comments.now c.args.page.now c.write_comments.new.page c.put.new.self
    (sym c.is_empty.ensures ∙ c.if-is_empty.false) c.in_ok-write_comments.ensures c.in_ok-put.ensures
