use Rattle.std.proofs.Common.{◌≡◌, take}
use Rattle.flowchart_comparison.specs.Comparisons.{lines_text}
use Rattle.flowchart_comparison.proofs.comparison.lines_text.Given as goal

abbrev pub invariant-loop-line : goal.invariant-loop-line
invariant-loop-line l = l.text.items ≡ lines_text (take l.line-index l.lines)
