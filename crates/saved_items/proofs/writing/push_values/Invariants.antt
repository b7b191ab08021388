use Rattle.std.proofs.Common.{◌≡◌, ◌++◌, take}
use Rattle.saved_items.specs.private.SavedBooks.{values_text}
use Rattle.saved_items.proofs.writing.push_values.Given as goal

abbrev pub invariant-loop-at : goal.invariant-loop-at
invariant-loop-at l = l.out.items ≡ l.fn.out.items ++ values_text (take l.at l.values)
