use Rattle.std.proofs.Common.{◌≡◌, ◌++◌, take}
use Rattle.std.specs.List.{flat_map}
use Rattle.coverage_page.specs.CoverageParts.{covered_row}
use Rattle.coverage_page.proofs.part.write_rows.Given as goal

abbrev pub invariant-loop-method : goal.invariant-loop-method
invariant-loop-method l = l.part ≡ l.initial.part ++ flat_map covered_row (take l.method-index l.methods)
