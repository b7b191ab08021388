use Rattle.std.proofs.Common.{◌≡◌, ◌≤◌, length, take, drop}
use Rattle.interval_analysis.specs.private.Notes.{taken_back}
use Rattle.interval_analysis.proofs.variables.Variables.take_back.Given as goal

abbrev pub invariant-loop-self : goal.invariant-loop-self
invariant-loop-self l = record {
  many : l.mark ≤ length l.self.notes.items;
  front : take l.mark l.self.notes.items ≡ take l.mark l.initial.self.notes.items;
  left :
      taken_back l.self.ranges.items (drop l.mark l.self.notes.items)
      ≡ taken_back l.initial.self.ranges.items (drop l.mark l.initial.self.notes.items);
}

abbrev pub decreases-loop-self : goal.decreases-loop-self
decreases-loop-self l = length l.self.notes.items
