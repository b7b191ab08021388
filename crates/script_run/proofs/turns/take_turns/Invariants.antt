use Rattle.std.proofs.Common.{◌≡◌, ◌≤◌, ◌-◌, length}
use Rattle.script_run.specs.Limits.{most_script, most_turn}
use Rattle.std.specs.Prelude.{is_some}
use Rattle.script_run.specs.private.RunClauses.{beside}
use Rattle.script_run.proofs.TurnLaws.{Stood}
use Rattle.script_run.proofs.turns.take_turns.Given as goal

abbrev pub invariant-turns : goal.invariant-turns
invariant-turns g l = record {
  stood : Stood
      (beside l.initial.reading.refusals g.F.Files g.W.Sink g.N.Sink l.initial.files l.initial.sink l.initial.notes l.initial.steps)
      (beside l.reading.refusals g.F.Files g.W.Sink g.N.Sink l.files l.sink l.notes l.steps)
      (g.R.Source.left l.initial.source) (g.R.Source.left l.source) l.taken l.reading;
  room : length l.buf ≡ most_turn;
  within : l.taken ≤ most_script;
  mode : is_some l.reading.refusals ≡ is_some l.initial.reading.refusals;
  same : g.F.Files.told l.files ≡ g.F.Files.told l.initial.files;
  kept : g.F.Files.failed l.files ≡ g.F.Files.failed l.initial.files;
  files_later : g.F.Files.faults l.initial.files ≤ g.F.Files.faults l.files;
  source_later : g.R.Source.faults l.initial.source ≤ g.R.Source.faults l.source;
  sink_later : g.W.Sink.faults l.initial.sink ≤ g.W.Sink.faults l.sink;
}

abbrev pub decreases-turns : goal.decreases-turns
decreases-turns g l = most_script - l.taken
