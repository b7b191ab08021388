use Rattle.std.proofs.Common.{◌≡◌, ◌++◌, take}
use Rattle.std.specs.List.{flat_map}
use Rattle.comparison_page.specs.RangeTexts.{range_change_lines}
use Rattle.comparison_page.proofs.ranges.write_changes.Given as goal

abbrev pub invariant-loop-change : goal.invariant-loop-change
invariant-loop-change l =
    l.out.items ≡ l.initial.out.items ++ flat_map range_change_lines (take l.change-index l.changes)
