use Rattle.std.proofs.Common.{◌≡◌, take}
use Rattle.std.specs.List.{flat_map, fold}
use Rattle.pap_tree.specs.Flowchart.{flowchart_of}
use Rattle.run_coverage.specs.CoveredRuns.{run_traces}
use Rattle.run_coverage.specs.private.Tallies.{after_trace}
use Rattle.run_coverage.proofs.coverage.Board.count_runs.Given as goal

abbrev pub invariant-loop-run : goal.invariant-loop-run
invariant-loop-run l =
    l.self ≡ fold (after_trace (flowchart_of l.plan)) l.initial.self (flat_map (run_traces l.book) (take l.run-index l.runs))
