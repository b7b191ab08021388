use Rattle.std.proofs.Common.{◌≡◌, take}
use Rattle.flowchart_findings.specs.Places.{tag_bytes}
use Rattle.flowchart_findings.proofs.tags.tag_bytes.Given as goal

abbrev pub invariant-loop-mark : goal.invariant-loop-mark
invariant-loop-mark l = l.bytes.items ≡ tag_bytes l.starts (take l.mark-index l.marks)
