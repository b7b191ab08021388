use Rattle.std.proofs.Common.{ap, ◌∙◌, arith}
use Rattle.std.specs.List.{flat_map, fold}
use Rattle.pap_tree.specs.Flowchart.{flowchart_of}
use Rattle.book_edits.specs.Kept.{runs_in_year}
use Rattle.run_coverage.specs.CoveredRuns.{run_traces, year_traces}
use Rattle.run_coverage.specs.private.Tallies.{after_trace}
use Rattle.run_coverage.proofs.Steps.{fold_next}
use Rattle.run_coverage.proofs.coverage.Board.count_years.Goals as goal

pub loop-year-preserved : goal.loop-year-preserved
loop-year-preserved c =
    fold_next (after_trace (flowchart_of c.args.plan.now)) (λ y. year_traces c.args.book.now (runs_in_year y)) c.args.years.now
    c.loop-year.year-index c.year-item.result c.year-item.result c.args.self.now c.loop-year.self c.count_runs.new.self
    (omega arith) c.year-item.is c.loop-year.invariant
    (c.in_ok-count_runs.ensures
    ∙ ap (λ rs. fold (after_trace (flowchart_of c.args.plan.now)) c.loop-year.self (flat_map (run_traces c.args.book.now) rs))
    c.as_slice.ensures.value)
