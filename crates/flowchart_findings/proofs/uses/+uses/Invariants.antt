use Rattle.std.proofs.Common.{drop}
use Rattle.pap_tree.specs.Flowchart.{body_of}
use Rattle.flowchart_findings.proofs.UseLemmas.{AreLeft}
use Rattle.flowchart_findings.proofs.uses.+uses.Given as goal

abbrev pub invariant-add_body-loop-stmt : goal.invariant-add_body-loop-stmt
invariant-add_body-loop-stmt l = AreLeft (body_of l.body) (body_of (drop l.stmt-index l.body)) l.initial.uses l.uses
