use Rattle.std.proofs.Common.{take, map}
use Rattle.pap_tree.specs.Flowchart.{routine_of}
use Rattle.flowchart_findings.specs.private.UseViews.{AddsMethodUses}
use Rattle.flowchart_findings.proofs.uses.add_methods.Given as goal

abbrev pub invariant-loop-method : goal.invariant-loop-method
invariant-loop-method l = AddsMethodUses (map routine_of (take l.method-index l.methods)) l.initial.uses l.uses
