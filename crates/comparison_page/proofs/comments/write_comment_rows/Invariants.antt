use Rattle.std.proofs.Common.{◌≡◌, ◌++◌, take}
use Rattle.std.specs.List.{flat_map}
use Rattle.comparison_page.specs.CommentParts.{comment_row}
use Rattle.comparison_page.proofs.comments.write_comment_rows.Given as goal

abbrev pub invariant-loop-change : goal.invariant-loop-change
invariant-loop-change l =
    l.page.items ≡ l.initial.page.items ++ flat_map (comment_row l.comments) (take l.change-index l.changes)
