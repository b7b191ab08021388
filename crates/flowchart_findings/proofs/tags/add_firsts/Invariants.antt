use Rattle.std.proofs.Common.{◌≡◌, ◌++◌, ◌≤◌, drop}
use Rattle.source_lines.specs.Lines.{starts_before}
use Rattle.flowchart_findings.proofs.tags.add_firsts.Given as goal

abbrev pub invariant-loop-mark : goal.invariant-loop-mark
invariant-loop-mark l = record {
  few : l.count ≤ l.mark-index;
  added : l.firsts.items ++ starts_before l.element l.count (drop l.mark-index l.marks)
      ≡ l.initial.firsts.items ++ starts_before l.element 0 l.marks;
}
