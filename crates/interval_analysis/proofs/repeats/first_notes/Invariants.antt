use Rattle.std.proofs.Common.{◌≡◌, ◌≤◌, ◌++◌, List, length, take, drop}
use Rattle.interval_num.specs.Intervals.{Interval}
use Rattle.interval_analysis.specs.private.Notes.{ArePlaced, taken_back}
use Rattle.interval_analysis.proofs.repeats.first_notes.Given as goal

abbrev pub invariant-loop-at : goal.invariant-loop-at
invariant-loop-at l = record {
  few : l.count ≤ l.at;
  long : length l.notes ≡ length l.initial.notes;
  room : length l.places ≡ length l.initial.places;
  back : (ranges : List Interval) → length ranges ≤ length l.places → taken_back ranges (take l.count l.notes ++ drop l.at l.notes) ≡ taken_back ranges l.initial.notes;
  placed : ArePlaced 0 l.places (take l.count l.notes);
}
