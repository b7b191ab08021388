use Rattle.std.proofs.Common.{◌≡◌, map, take}
use Rattle.coverage_page.specs.CoverageMarks.{covered_marks}
use Rattle.coverage_page.proofs.marks.coverage_marks.Given as goal

abbrev pub invariant-loop-method : goal.invariant-loop-method
invariant-loop-method l = l.marks.items ≡ map covered_marks (take l.method-index l.methods)
