use Rattle.std.proofs.Common.{◌++◌, ◌∙◌, sym, ap, map, take}
use Rattle.interval_analysis.specs.Answers.{named_range}
use Rattle.plan_answers.specs.Lines.{range_line, range_lines}
use Rattle.plan_answers.proofs.LineLemmas.{ranges_more, text_more}
use Rattle.plan_answers.proofs.check.write_ranges.Goals as goal

pub loop-output-preserved : goal.loop-output-preserved
loop-output-preserved c =
    let i = c.loop-output.output-index in
    let output = c.output-item.result in
    let first = c.args.text.now.items in
    let lines = range_lines (map named_range (take i c.args.outputs.now)) in
    let line = c.as_bytes.ensures.value ∙ c.in_ok-line.ensures in
    text_more c.extend_from_slice.new.self.items c.loop-output.text.items c.as_bytes.result.now first lines (range_line (named_range output)) c.in_ok-extend_from_slice.ensures.items c.loop-output.invariant line
    ∙ ap (λ z. first ++ z) (sym (ranges_more c.args.outputs.now i output c.output-item.is c.loop-output-test.true))
