use Rattle.std.proofs.Common.{◌≡◌, take}
use Rattle.std.specs.List.{flat_map, fold}
use Rattle.pap_tree.specs.Flowchart.{flowchart_of}
use Rattle.book_edits.specs.Kept.{runs_in_year}
use Rattle.run_coverage.specs.CoveredRuns.{year_traces}
use Rattle.run_coverage.specs.private.Tallies.{after_trace}
use Rattle.run_coverage.proofs.coverage.Board.count_years.Given as goal

abbrev pub invariant-loop-year : goal.invariant-loop-year
invariant-loop-year l =
    l.self ≡ fold (after_trace (flowchart_of l.plan)) l.initial.self (flat_map (λ y. year_traces l.book (runs_in_year y)) (take l.year-index l.years))
