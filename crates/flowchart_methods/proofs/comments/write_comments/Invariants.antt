use Rattle.std.proofs.Common.{◌≡◌, ◌++◌, take}
use Rattle.flowchart_methods.specs.Comments.{comments_text}
use Rattle.flowchart_methods.proofs.comments.write_comments.Given as goal

-- the comments so far are written
abbrev pub invariant-loop-i : goal.invariant-loop-i
invariant-loop-i l = l.page ≡ l.initial.page ++ comments_text (take l.i l.comments)
