use Rattle.std.proofs.Common.{◌≡◌, drop}
use Rattle.interval_analysis.specs.private.Changes.{AreKept, changed}
use Rattle.interval_analysis.specs.private.Notes.{IsNoted}
use Rattle.interval_analysis.proofs.variables.Variables.apply.Given as goal

abbrev pub invariant-loop-change : goal.invariant-loop-change
invariant-loop-change l = record {
  left : changed l.self.ranges.items (drop l.change-index l.changes) ≡ changed l.initial.self.ranges.items l.changes;
  noted : IsNoted l.initial.self l.self;
  kept : AreKept l.self.ranges.items;
}
