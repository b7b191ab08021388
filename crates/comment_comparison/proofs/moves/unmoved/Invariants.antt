use Rattle.std.proofs.Common.{take}
use Rattle.comment_comparison.specs.Comments.{comment_texts}
use Rattle.comment_comparison.specs.private.Tallies.{AreUnmoved}
use Rattle.comment_comparison.proofs.moves.unmoved.Given as goal

abbrev pub invariant-loop-change : goal.invariant-loop-change
invariant-loop-change l =
    AreUnmoved (comment_texts l.old) (comment_texts l.new) l.changes (take l.change-index l.changes) l.told.items l.tally
