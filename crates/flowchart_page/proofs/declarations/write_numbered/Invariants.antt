use Rattle.std.proofs.Common.{◌≡◌, ◌++◌, take}
use Rattle.flowchart_page.specs.Declarations.{table_items_text}
use Rattle.flowchart_page.proofs.declarations.write_numbered.Given as goal

-- the items so far are written
abbrev pub invariant-loop-i : goal.invariant-loop-i
invariant-loop-i l = l.page ≡ l.initial.page ++ table_items_text 0 (take l.i l.items)
