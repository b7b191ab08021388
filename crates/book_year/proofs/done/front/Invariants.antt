use Rattle.std.proofs.Common.{◌≡◌, map, take}
use Rattle.book_year.specs.Kept.{IsOld}
use Rattle.book_year.specs.Rows.{Planned, earlier_of, year_rows}
use Rattle.book_year.proofs.done.front.Given as goal

abbrev pub invariant-loop-at : goal.invariant-loop-at
invariant-loop-at l = (planned : Planned) → IsOld planned l.old → l.earlier.items ≡ map earlier_of (take l.at (year_rows planned l.old.records.now))
