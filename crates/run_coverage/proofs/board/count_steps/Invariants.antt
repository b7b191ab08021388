use Rattle.std.proofs.Common.{◌≡◌, take}
use Rattle.std.specs.List.{fold}
use Rattle.pap_tree.specs.Flowchart.{flowchart_of}
use Rattle.run_coverage.specs.Coverage.{numbered}
use Rattle.run_coverage.specs.private.Tallies.{after_step}
use Rattle.run_coverage.proofs.board.count_steps.Given as goal

abbrev pub invariant-loop-step : goal.invariant-loop-step
invariant-loop-step l = record {
  counted : l.methods ≡ fold (after_step (flowchart_of l.plan) l.run) l.initial.methods (take l.step-index l.steps);
  number : l.last.number ≡ numbered (flowchart_of l.plan) l.last.name;
}
