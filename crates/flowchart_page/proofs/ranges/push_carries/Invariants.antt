use Rattle.std.proofs.Common.{◌≡◌, ◌++◌, take, string_bytes}
use Rattle.flowchart_page.specs.Ranges.{carries_text}
use Rattle.flowchart_page.proofs.ranges.push_carries.Given as goal

-- those so far are written
abbrev pub invariant-loop-binding : goal.invariant-loop-binding
invariant-loop-binding l =
    string_bytes l.text ≡ string_bytes l.initial.text ++ carries_text (take l.binding-index l.bindings) l.name
