use Rattle.std.proofs.Common.{◌≡◌, ◌++◌, take}
use Rattle.std.specs.List.{flat_map}
use Rattle.comparison_page.specs.Rows.{range_row}
use Rattle.comparison_page.proofs.rows.write_range_rows.Given as goal

abbrev pub invariant-loop-change : goal.invariant-loop-change
invariant-loop-change l =
    l.page.items ≡ l.initial.page.items ++ flat_map range_row (take l.change-index l.changes)
