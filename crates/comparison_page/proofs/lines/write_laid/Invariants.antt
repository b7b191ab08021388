use Rattle.std.proofs.Common.{◌≡◌, ◌≤◌, ◌++◌, drop}
use Rattle.comparison_page.specs.Texts.{laid}
use Rattle.comparison_page.proofs.lines.write_laid.Given as goal

abbrev pub invariant-loop-byte : goal.invariant-loop-byte
invariant-loop-byte l = record {
  within : l.column ≤ 100;
  left : l.out.items ++ laid l.sign l.column (drop l.byte-index l.text)
      ≡ l.initial.out.items ++ laid l.sign l.initial.column l.text;
}
