use Rattle.std.proofs.Common.{◌≡◌, ◌≤◌, ◌++◌, List, ℕ, length}
use Rattle.std.specs.Prelude.{is_some}
use Rattle.script_run.specs.private.RunClauses.{beside}
use Rattle.script_run.specs.private.RunViews.{GoesOn}
use Rattle.script_run.proofs.reading.Reading.feed.Given as goal

abbrev pub invariant-loop-end : goal.invariant-loop-end
invariant-loop-end g l = record {
  done : List ℕ;
  split : l.piece ≡ done ++ l.rest;
  within : length l.rest ≤ length l.piece;
  on : GoesOn
      (beside l.initial.self.refusals g.F.Files g.W.Sink g.N.Sink l.initial.files l.initial.sink l.initial.notes l.initial.steps)
      (beside l.self.refusals g.F.Files g.W.Sink g.N.Sink l.files l.sink l.notes l.steps)
      l.initial.self l.self done;
  mode : is_some l.self.refusals ≡ is_some l.initial.self.refusals;
  same : g.F.Files.told l.files ≡ g.F.Files.told l.initial.files;
  kept : g.F.Files.failed l.files ≡ g.F.Files.failed l.initial.files;
  files_later : g.F.Files.faults l.initial.files ≤ g.F.Files.faults l.files;
  sink_later : g.W.Sink.faults l.initial.sink ≤ g.W.Sink.faults l.sink;
}

abbrev pub decreases-loop-end : goal.decreases-loop-end
decreases-loop-end g l = length l.rest
