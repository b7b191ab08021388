use Rattle.std.proofs.Common.{◌≡◌}
use Rattle.plan_notes.specs.Walks.{notes_of, marks_left, behind_starts}
use Rattle.plan_notes.proofs.notes.Walk.find_start.Given as goal

abbrev pub invariant-loop-passed : goal.invariant-loop-passed
invariant-loop-passed l = record {
  left : marks_left l.self ≡ behind_starts l.starts l._passed (marks_left l.fn.self);
  notes : notes_of l.self ≡ notes_of l.fn.self;
}
