use Rattle.std.proofs.Common.{◌≡◌, take}
use Rattle.flowchart_findings.specs.private.PlaceViews.{IsCursor}
use Rattle.flowchart_findings.specs.Texts.{finding_lines}
use Rattle.plain_words.specs.Places.{named_text}
use Rattle.flowchart_findings.proofs.text.findings_text.Given as goal

abbrev pub invariant-loop-finding : goal.invariant-loop-finding
invariant-loop-finding l = record {
  cursor : IsCursor l.file.bytes.now l.cursor;
  lines : l.out.items ≡ finding_lines (named_text l.file) l.marks (take l.finding-index l.findings);
}
