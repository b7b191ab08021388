use Rattle.std.proofs.Common.{ap, ◌++◌, ◌∙◌}
use Rattle.comment_comparison.specs.CommentChanges.{ComparedComments}
use Rattle.comparison_page.specs.Tables.{part_end}
use Rattle.comparison_page.specs.CommentParts.{comment_table, comments_start}
use Rattle.comparison_page.proofs.PieceLemmas.{three_pieces}
use Rattle.comparison_page.proofs.comments.write_comment_part.Goals as goal

pub returns : goal.returns
returns c =
    let comments = c.args.comments.now in
    let before = c.push_own.new.page.items in
    let changes = c.deref.ensures.value ∙ ap (λ (v : ComparedComments). v.changes) c.comments.view_is in
    three_pieces comments_start (comment_table comments comments.changes) part_end c.args.page.now.items
    before c.write_comment_table.new.page.items c.push_own-2.new.page.items c.in_ok-push_own.ensures
    (c.in_ok-write_comment_table.ensures ∙ ap (λ cs. before ++ comment_table comments cs) changes)
    c.in_ok-push_own-2.ensures
