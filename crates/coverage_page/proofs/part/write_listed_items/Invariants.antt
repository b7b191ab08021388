use Rattle.std.proofs.Common.{◌≡◌, ◌++◌, take}
use Rattle.std.specs.List.{flat_map}
use Rattle.coverage_page.specs.CoverageParts.{tested_entry}
use Rattle.coverage_page.specs.private.ItemLists.{is_in_list}
use Rattle.coverage_page.proofs.part.write_listed_items.Given as goal

abbrev pub invariant-loop-item : goal.invariant-loop-item
invariant-loop-item l = l.entries ≡ l.initial.entries ++ flat_map (tested_entry (is_in_list l.list) l.name) (take l.item-index l.items)
