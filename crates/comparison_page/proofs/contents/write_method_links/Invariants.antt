use Rattle.std.proofs.Common.{◌≡◌, ◌++◌, take}
use Rattle.std.specs.List.{flat_map}
use Rattle.comparison_page.specs.Pages.{compared_link}
use Rattle.comparison_page.proofs.contents.write_method_links.Given as goal

abbrev pub invariant-loop-method : goal.invariant-loop-method
invariant-loop-method l =
    l.page.items ≡ l.initial.page.items ++ flat_map (compared_link l.old l.new) (take l.method-index l.methods)
