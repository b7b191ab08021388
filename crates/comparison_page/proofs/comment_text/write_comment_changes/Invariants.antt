use Rattle.std.proofs.Common.{◌≡◌, ◌++◌, take}
use Rattle.std.specs.List.{flat_map}
use Rattle.comparison_page.specs.CommentTexts.{comment_change_line}
use Rattle.comparison_page.proofs.comment_text.write_comment_changes.Given as goal

abbrev pub invariant-loop-change : goal.invariant-loop-change
invariant-loop-change l =
    l.out.items ≡ l.initial.out.items ++ flat_map (comment_change_line l.comments) (take l.change-index l.comments.changes)
