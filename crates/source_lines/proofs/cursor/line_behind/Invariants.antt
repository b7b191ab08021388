use Rattle.std.proofs.Common.{◌≡◌}
use Rattle.plain_words.specs.Positions.{line_of}
use Rattle.source_lines.proofs.cursor.line_behind.Given as goal

abbrev pub invariant-loop-at : goal.invariant-loop-at
invariant-loop-at l = l.line ≡ line_of l.text l.at
