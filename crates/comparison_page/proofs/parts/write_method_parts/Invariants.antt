use Rattle.std.proofs.Common.{◌≡◌, ◌++◌, take}
use Rattle.std.specs.List.{flat_map}
use Rattle.comparison_page.specs.Pages.{compared_part}
use Rattle.comparison_page.proofs.parts.write_method_parts.Given as goal

abbrev pub invariant-loop-method : goal.invariant-loop-method
invariant-loop-method l =
    l.page.items ≡ l.initial.page.items ++ flat_map (compared_part l.old l.new) (take l.method-index l.methods)
