use Rattle.std.proofs.Common.{◌≡◌, ◌++◌, take}
use Rattle.std.specs.List.{flat_map}
use Rattle.comparison_page.specs.Texts.{declaration_lines}
use Rattle.comparison_page.proofs.text.write_declarations.Given as goal

abbrev pub invariant-loop-entry : goal.invariant-loop-entry
invariant-loop-entry l =
    l.out.items ≡ l.initial.out.items ++ flat_map (declaration_lines l.old l.new) (take l.entry-index l.entries)
