use Rattle.std.proofs.Common.{◌≡◌, ◌++◌, map, take}
use Rattle.interval_analysis.specs.Answers.{named_range}
use Rattle.plan_answers.specs.Lines.{range_lines}
use Rattle.plan_answers.proofs.check.write_ranges.Given as goal

abbrev pub invariant-loop-output : goal.invariant-loop-output
invariant-loop-output l =
    l.text.items ≡ l.initial.text.items ++ range_lines (map named_range (take l.output-index l.outputs))
