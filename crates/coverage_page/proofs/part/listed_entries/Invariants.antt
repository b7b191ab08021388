use Rattle.std.proofs.Common.{◌≡◌, take}
use Rattle.std.specs.List.{flat_map}
use Rattle.coverage_page.specs.CoverageParts.{method_entries}
use Rattle.coverage_page.specs.private.ItemLists.{is_in_list}
use Rattle.coverage_page.proofs.part.listed_entries.Given as goal

abbrev pub invariant-loop-method : goal.invariant-loop-method
invariant-loop-method l = l.entries ≡ flat_map (method_entries (is_in_list l.list)) (take l.method-index l.methods)
