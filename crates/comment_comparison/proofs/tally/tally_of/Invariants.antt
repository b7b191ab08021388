use Rattle.std.proofs.Common.{take}
use Rattle.comment_comparison.specs.Comments.{comment_texts}
use Rattle.comment_comparison.specs.private.Tallies.{IsTally}
use Rattle.comment_comparison.proofs.tally.tally_of.Given as goal

abbrev pub invariant-loop-change : goal.invariant-loop-change
invariant-loop-change l = IsTally (comment_texts l.old) (comment_texts l.new) (take l.change-index l.changes) l.tally
