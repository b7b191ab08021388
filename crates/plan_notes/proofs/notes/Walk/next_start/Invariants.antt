use Rattle.std.proofs.Common.{◌≡◌, length}
use Rattle.plan_notes.specs.Walks.{marks_left, is_start}
use Rattle.plan_notes.proofs.WalkLemmas.{Ahead}
use Rattle.plan_notes.proofs.notes.Walk.next_start.Given as goal

abbrev pub invariant-loop-mark : goal.invariant-loop-mark
invariant-loop-mark l = record {
  ahead : Ahead (is_start l.starts) (marks_left l.fn.self) l.left;
  same : l.self ≡ l.fn.self;
}

abbrev pub decreases-loop-mark : goal.decreases-loop-mark
decreases-loop-mark l = length l.left
