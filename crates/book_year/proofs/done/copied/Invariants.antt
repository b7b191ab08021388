use Rattle.std.proofs.Common.{◌≡◌, take}
use Rattle.book_year.proofs.done.copied.Given as goal

abbrev pub invariant-loop-outcome : goal.invariant-loop-outcome
invariant-loop-outcome l = l.copies.items ≡ take l.outcome-index l.outcomes
