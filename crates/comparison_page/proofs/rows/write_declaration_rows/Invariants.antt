use Rattle.std.proofs.Common.{◌≡◌, ◌++◌, take}
use Rattle.std.specs.List.{flat_map}
use Rattle.comparison_page.specs.Rows.{declaration_row}
use Rattle.comparison_page.proofs.rows.write_declaration_rows.Given as goal

abbrev pub invariant-loop-entry : goal.invariant-loop-entry
invariant-loop-entry l =
    l.page.items ≡ l.initial.page.items ++ flat_map (declaration_row l.old l.new) (take l.entry-index l.entries)
