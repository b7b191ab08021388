use Rattle.std.proofs.Common.{◌≡◌, ◌++◌, take}
use Rattle.flowchart_comparison.specs.Outlines.{items_text}
use Rattle.flowchart_comparison.proofs.outline.push_table.Given as goal

abbrev pub invariant-loop-item : goal.invariant-loop-item
invariant-loop-item l = l.text.items ≡ l.initial.text.items ++ items_text (take l.item-index l.items)
