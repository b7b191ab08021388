use Rattle.std.proofs.Common.{ap, ◌∙◌, arith}
use Rattle.std.specs.List.{fold}
use Rattle.pap_tree.specs.Flowchart.{flowchart_of}
use Rattle.run_coverage.specs.CoveredRuns.{key_traces, run_traces}
use Rattle.run_coverage.specs.private.Tallies.{after_trace}
use Rattle.run_coverage.proofs.Steps.{fold_next}
use Rattle.run_coverage.proofs.coverage.Board.count_runs.Goals as goal

pub loop-run-preserved : goal.loop-run-preserved
loop-run-preserved c =
    fold_next (after_trace (flowchart_of c.args.plan.now)) (run_traces c.args.book.now) c.args.runs.now
    c.loop-run.run-index c.run-item.result c.run-item.result c.args.self.now c.loop-run.self c.count_run.new.self
    (omega arith) c.run-item.is c.loop-run.invariant
    (c.in_ok-count_run.ensures
    ∙ ap (λ k. fold (after_trace (flowchart_of c.args.plan.now)) c.loop-run.self (key_traces c.args.book.now k)) c.key.ensures)
