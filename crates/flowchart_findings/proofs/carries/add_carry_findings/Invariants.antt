use Rattle.std.proofs.Common.{◌≡◌, ◌++◌, drop, map}
use Rattle.interval_analysis.specs.Answers.{named_range}
use Rattle.flowchart_findings.specs.Carries.{carry_findings}
use Rattle.flowchart_findings.proofs.carries.add_carry_findings.Given as goal

abbrev pub invariant-loop-number : goal.invariant-loop-number
invariant-loop-number l =
    l.out.items ++ carry_findings l.limits l.number (map named_range (drop l.number l.outputs))
    ≡ l.initial.out.items ++ carry_findings l.limits 0 (map named_range l.outputs)
