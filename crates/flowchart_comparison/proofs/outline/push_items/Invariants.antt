use Rattle.std.proofs.Common.{◌≡◌, ◌++◌, map, take}
use Rattle.pap_tree.specs.Declarations.{declaration_of}
use Rattle.flowchart_comparison.specs.Outlines.{declared_item}
use Rattle.flowchart_comparison.proofs.outline.push_items.Given as goal

abbrev pub invariant-loop-declaration : goal.invariant-loop-declaration
invariant-loop-declaration l =
    l.items.items
    ≡ l.initial.items.items ++ map (declared_item l.group) (map declaration_of (take l.declaration-index l.declared))
