use Rattle.std.specs.Option.{option_map}
use Rattle.comparison_page.specs.CommentParts.{comment_cell}
use Rattle.comparison_page.proofs.PieceLemmas.{three_pieces}
use Rattle.comparison_page.proofs.comments.write_told.Goals as goal

pub returns : goal.returns
returns c =
    three_pieces c.args.start.now (comment_cell c.args.side (option_map (λ o. o.now) c.args.comment)) c.args.end.now
    c.args.page.now.items c.push_own.new.page.items c.write_comment_cell.new.page.items c.push_own-2.new.page.items
    c.in_ok-push_own.ensures c.in_ok-write_comment_cell.ensures c.in_ok-push_own-2.ensures
