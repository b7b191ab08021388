use Rattle.std.proofs.Common.{◌+◌, ◌≤◌, vec_len, vec_capacity}
use Rattle.std.specs.VecDeque.{deque_len}
use Rattle.book_edits.proofs.LoadMergeLemmas.{AreMergedSoFar}
use Rattle.book_edits.proofs.merge.merged.Given as goal

abbrev pub invariant-loop-year : goal.invariant-loop-year
invariant-loop-year l = record {
  so_far : AreMergedSoFar l.fn.olds.items l.fn.drafts.items l.years.items l.olds.items l.drafts.items;
  room : vec_len l.years + deque_len l.olds + deque_len l.drafts ≤ vec_capacity l.years;
}

abbrev pub decreases-loop-year : goal.decreases-loop-year
decreases-loop-year l = deque_len l.olds + deque_len l.drafts
