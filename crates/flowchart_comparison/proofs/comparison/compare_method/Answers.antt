use Rattle.flowchart_comparison.proofs.EntryLemmas.{told_lines}
use Rattle.flowchart_comparison.proofs.comparison.compare_method.Goals as goal

pub returns-clause-lines : goal.returns-clause-lines
returns-clause-lines c =
    told_lines c.args.old.now c.args.new.now c.args.pair c.old_place.result c.new_place.result
    c.lines_at-old_lines.result.now c.lines_at-new_lines.result.now c.in_ok-lines.lines.items c.old_place.ensures
    c.new_place.ensures c.lines_at-old_lines.ensures c.lines_at-new_lines.ensures c.in_ok-lines.ensures.aligned
    c.in_ok-lines.ensures.front
