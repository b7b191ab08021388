use Rattle.std.proofs.Common.{◌≡◌, map, take}
use Rattle.run_trace.specs.private.MarkViews.{mark_in}
use Rattle.run_trace.proofs.marks.tallied_marks.Given as goal

abbrev pub invariant-loop-tally : goal.invariant-loop-tally
invariant-loop-tally l = l.marks.items ≡ map (map (mark_in l.total)) (take l.tally-index l.tallies)
