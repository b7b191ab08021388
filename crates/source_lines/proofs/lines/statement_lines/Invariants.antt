use Rattle.std.proofs.Common.{◌≡◌, take}
use Rattle.source_lines.specs.Lines.{statement_lines}
use Rattle.source_lines.specs.private.LineViews.{IsSpot}
use Rattle.source_lines.proofs.lines.statement_lines.Given as goal

abbrev pub invariant-loop-mark : goal.invariant-loop-mark
invariant-loop-mark l = record {
  spot : IsSpot l.file l.spot;
  lines : l.lines.items ≡ statement_lines l.file (take l.mark-index l.marks);
}
