use Rattle.std.proofs.Common.{◌≡◌, ◌++◌, take}
use Rattle.std.specs.List.{flat_map}
use Rattle.failing_input.specs.SearchTexts.{part_line}
use Rattle.failing_input.proofs.text.write_parts.Given as goal

abbrev pub invariant-loop-part : goal.invariant-loop-part
invariant-loop-part l = l.out.items ≡ l.initial.out.items ++ flat_map (part_line l.limits) (take l.part-index l.parts)
