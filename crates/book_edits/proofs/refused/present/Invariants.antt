use Rattle.std.proofs.Common.{◌≡◌, None, take}
use Rattle.book_edits.specs.Kept.{years_of}
use Rattle.book_edits.specs.Loads.{first_present}
use Rattle.book_edits.proofs.refused.present.Given as goal

abbrev pub invariant-loop-item : goal.invariant-loop-item
invariant-loop-item l = first_present (years_of l.fn.years) (take l.item-index l.items) ≡ None
