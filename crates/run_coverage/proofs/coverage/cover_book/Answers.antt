use Rattle.std.proofs.Common.{◌≡◌, ap, subst, ◌∙◌}
use Rattle.std.specs.Prelude.{IfOk}
use Rattle.std.specs.List.{flat_map, fold}
use Rattle.pap_tree.specs.Flowchart.{flowchart_of}
use Rattle.pap_plan.specs.Plans.{flowchart}
use Rattle.book_edits.specs.Kept.{runs_in as kept_runs, runs_in_year}
use Rattle.run_coverage.specs.CoveredRuns.{year_traces, book_traces}
use Rattle.run_coverage.specs.private.Tallies.{after_trace}
use Rattle.run_coverage.proofs.CountLemmas.{covered, whole_book}
use Rattle.run_coverage.proofs.coverage.cover_book.Goals as goal

pub returns : goal.returns
returns c =
    let f = flowchart c.args.plan.now in
    let book = c.args.book.now in
    let start = c.in_ok-board.board in
    let ends = c.in_ok-count_years.ensures
    ∙ ap (λ p. fold (after_trace (flowchart_of p)) start (flat_map (λ y. year_traces book (runs_in_year y)) c.as_slice.result.now))
    c.text.ensures.text
    ∙ ap (λ traces. fold (after_trace f) start traces)
    (whole_book book c.as_slice.result.now (ap kept_runs c.as_slice.ensures.value ∙ c.years.ensures.years)) in
    subst (λ l. IfOk c.coverage.result (λ coverage. coverage ≡ l))
    (covered f c.args.counts.now (book_traces book) start c.count_years.new.self c.in_ok-board.ensures ends)
    c.coverage.ensures
