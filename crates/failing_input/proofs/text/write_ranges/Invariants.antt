use Rattle.std.proofs.Common.{◌≡◌, ◌++◌, drop}
use Rattle.failing_input.specs.SearchTexts.{part_words}
use Rattle.failing_input.proofs.text.write_ranges.Given as goal

abbrev pub invariant-loop-at : goal.invariant-loop-at
invariant-loop-at l =
    l.out.items ++ part_words (drop l.at l.wholes) (drop l.at l.ranges)
    ≡ l.initial.out.items ++ part_words l.wholes l.ranges
