use Rattle.std.proofs.Common.{take}
use Rattle.std.specs.List.{AllByRecursion}
use Rattle.saved_items.specs.SavedBooks.{IsValue}
use Rattle.saved_items.proofs.run_words.are_values.Given as goal

abbrev pub invariant-loop-at : goal.invariant-loop-at
invariant-loop-at l = AllByRecursion IsValue (take l.at l.values)
