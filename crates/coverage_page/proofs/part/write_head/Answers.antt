use Rattle.std.proofs.Common.{◌++◌, ap, ◌∙◌}
use Rattle.std.proofs.lemmas.Result.{on_ok_weaker}
use Rattle.coverage_page.specs.CoverageParts.{counts_sentence}
use Rattle.coverage_page.proofs.PartLemmas.{four_parts}
use Rattle.coverage_page.proofs.part.write_head.Goals as goal

pub returns : goal.returns
returns c =
    on_ok_weaker c.write_table.result
    (λ last. four_parts _ _ _ _ c.args.part.now c.put.new.self c.write_counts.new.part c.write_open_runs.new.part c.write_table.new.part
    c.in_ok-put.ensures
    (c.in_ok-write_counts.ensures ∙ ap (λ k. c.put.new.self ++ counts_sentence k) c.in_ok-counts.ensures.counts)
    c.in_ok-write_open_runs.ensures last)
    c.write_table.ensures
