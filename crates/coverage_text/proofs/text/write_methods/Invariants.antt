use Rattle.std.proofs.Common.{◌≡◌, ◌++◌, take}
use Rattle.std.specs.List.{flat_map}
use Rattle.coverage_text.specs.CoverageTexts.{method_line}
use Rattle.coverage_text.proofs.text.write_methods.Given as goal

abbrev pub invariant-loop-method : goal.invariant-loop-method
invariant-loop-method l = l.out.items ≡ l.initial.out.items ++ flat_map method_line (take l.method-index l.methods)
