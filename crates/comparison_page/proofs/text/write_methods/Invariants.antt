use Rattle.std.proofs.Common.{◌≡◌, ◌++◌, take}
use Rattle.std.specs.List.{flat_map}
use Rattle.comparison_page.specs.Texts.{shown_method}
use Rattle.comparison_page.proofs.text.write_methods.Given as goal

abbrev pub invariant-loop-method : goal.invariant-loop-method
invariant-loop-method l =
    l.out.items ≡ l.initial.out.items ++ flat_map (shown_method l.old l.new) (take l.method-index l.methods)
