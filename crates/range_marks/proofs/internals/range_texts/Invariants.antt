use Rattle.std.proofs.Common.{◌≡◌, map, take}
use Rattle.range_marks.specs.RangeTexts.{ends_text}
use Rattle.range_marks.proofs.internals.range_texts.Given as goal

abbrev pub invariant-loop-range : goal.invariant-loop-range
invariant-loop-range l = map (λ t. t.items) l.texts.items ≡ map ends_text (take l.range-index l.ranges)
