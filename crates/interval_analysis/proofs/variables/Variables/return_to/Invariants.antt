use Rattle.std.proofs.Common.{◌≡◌, ◌≤◌, length, take, drop}
use Rattle.interval_analysis.specs.private.Changes.{AreKept}
use Rattle.interval_analysis.specs.private.Notes.{IsNoted, taken_back}
use Rattle.interval_analysis.proofs.variables.Variables.return_to.Given as goal

abbrev pub invariant-loop-left : goal.invariant-loop-left
invariant-loop-left l = record {
  above : l.mark ≤ l.left;
  below : l.left ≤ length l.initial.self.notes.items;
  back :
      taken_back l.self.ranges.items (drop l.mark (take l.left l.initial.self.notes.items))
      ≡ taken_back l.initial.self.ranges.items (drop l.mark l.initial.self.notes.items);
  noted : IsNoted l.initial.self l.self;
  kept : AreKept l.self.ranges.items;
}

abbrev pub decreases-loop-left : goal.decreases-loop-left
decreases-loop-left l = l.left
