use Rattle.std.proofs.Common.{◌≡◌}
use Rattle.plain_words.specs.Positions.{line_of, column_of}
use Rattle.flowchart_findings.proofs.cursor.Cursor.moved.Given as goal

abbrev pub invariant-loop-at : goal.invariant-loop-at
invariant-loop-at l = record {
  line : l.line ≡ line_of l.text l.at;
  column : l.column ≡ column_of l.text l.at;
}
