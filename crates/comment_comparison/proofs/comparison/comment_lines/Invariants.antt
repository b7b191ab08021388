use Rattle.std.proofs.Common.{◌≡◌, take}
use Rattle.flowchart_comparison.specs.Comparisons.{line_texts}
use Rattle.comment_comparison.specs.Comments.{comment_texts}
use Rattle.comment_comparison.proofs.comparison.comment_lines.Given as goal

abbrev pub invariant-loop-comment : goal.invariant-loop-comment
invariant-loop-comment l = line_texts l.lines.items ≡ comment_texts (take l.comment-index l.comments)
