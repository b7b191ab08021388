use Rattle.std.proofs.Common.{◌≡◌, ◌++◌, take}
use Rattle.std.specs.List.{flat_map}
use Rattle.comparison_page.specs.Rows.{line_row}
use Rattle.comparison_page.proofs.rows.write_line_rows.Given as goal

abbrev pub invariant-loop-entry : goal.invariant-loop-entry
invariant-loop-entry l =
    l.page.items ≡ l.initial.page.items ++ flat_map (line_row l.old l.new) (take l.entry-index l.lines)
