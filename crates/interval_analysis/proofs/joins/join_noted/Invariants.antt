use Rattle.std.proofs.Common.{◌≡◌, drop}
use Rattle.interval_analysis.specs.private.Changes.{AreKept}
use Rattle.interval_analysis.specs.private.Notes.{taken_back}
use Rattle.interval_analysis.specs.private.StatementViews.{joined_lists}
use Rattle.interval_analysis.proofs.joins.join_noted.Given as goal

abbrev pub invariant-loop-note : goal.invariant-loop-note
invariant-loop-note l = record {
  left :
      joined_lists l.ranges (taken_back l.ranges (drop l.note-index l.notes))
      ≡ joined_lists l.initial.ranges (taken_back l.initial.ranges l.notes);
  back : taken_back l.ranges l.notes ≡ taken_back l.initial.ranges l.notes;
  kept : AreKept l.ranges;
}
