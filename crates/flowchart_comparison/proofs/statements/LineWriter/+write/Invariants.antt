use Rattle.std.proofs.Common.{drop}
use Rattle.pap_tree.specs.Flowchart.{body_of}
use Rattle.flowchart_comparison.proofs.LineLemmas.{IsLeft}
use Rattle.flowchart_comparison.proofs.statements.LineWriter.+write.Given as goal

abbrev pub invariant-write_body-loop-statement : goal.invariant-write_body-loop-statement
invariant-write_body-loop-statement l =
    IsLeft (body_of l.body) (body_of (drop l.statement-index l.body)) l.initial.self.next l.self.next
    l.initial.self.lines.items l.self.lines.items
