use Rattle.std.proofs.Common.{◌≡◌, take}
use Rattle.std.specs.List.{flat_map}
use Rattle.coverage_page.specs.CoverageMarks.{item_mark}
use Rattle.coverage_page.proofs.marks.marks_of.Given as goal

abbrev pub invariant-loop-item : goal.invariant-loop-item
invariant-loop-item l = l.marks.items ≡ flat_map item_mark (take l.item-index l.items)
