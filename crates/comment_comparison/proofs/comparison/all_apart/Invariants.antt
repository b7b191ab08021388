use Rattle.std.proofs.Common.{◌≡◌, take}
use Rattle.comment_comparison.specs.CommentChanges.{all_apart}
use Rattle.comment_comparison.proofs.comparison.all_apart.Given as goal

abbrev pub invariant-loop-entry : goal.invariant-loop-entry
invariant-loop-entry l = l.changes.items ≡ all_apart (take l.entry-index l.entries)
