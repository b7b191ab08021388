use Rattle.std.proofs.Common.{◌≡◌, ◌≤◌, length, vec_len}
use Rattle.book_edits.specs.private.RedoneClauses.{merged}
use Rattle.book_edits.proofs.redone.put_in.Given as goal

abbrev pub invariant-loop-new : goal.invariant-loop-new
invariant-loop-new l =
    (length l.outcomes.items ≤ length l.years.items) × (merged l.years.items l.outcomes.items ≡ merged l.initial.years.items l.initial.outcomes.items)

abbrev pub decreases-loop-new : goal.decreases-loop-new
decreases-loop-new l = vec_len l.outcomes
