use Rattle.std.proofs.Common.{◌≡◌, ◌++◌, take}
use Rattle.std.specs.List.{flat_map}
use Rattle.coverage_text.specs.CoverageTexts.{missed_lines}
use Rattle.coverage_text.proofs.text.write_missed.Given as goal

abbrev pub invariant-loop-method : goal.invariant-loop-method
invariant-loop-method l = l.out.items ≡ l.initial.out.items ++ flat_map missed_lines (take l.method-index l.methods)
