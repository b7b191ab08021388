use Rattle.std.proofs.Common.{take}
use Rattle.flowchart_findings.specs.private.SetViews.{HasNames}
use Rattle.flowchart_findings.proofs.name_sets.name_set.Given as goal

abbrev pub invariant-loop-name : goal.invariant-loop-name
invariant-loop-name l = HasNames (take l.name-index l.names) l.set
