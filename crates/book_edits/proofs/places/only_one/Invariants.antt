use Rattle.std.proofs.Common.{◌≡◌, drop, filter}
use Rattle.book_edits.specs.Books.{is_in_month, only_one}
use Rattle.book_edits.proofs.MonthLemmas.{only_one_after}
use Rattle.book_edits.proofs.places.only_one.Given as goal

abbrev pub invariant-loop-run : goal.invariant-loop-run
invariant-loop-run l =
    only_one_after l.found (filter (λ r. is_in_month l.month r.day) (drop l.run-index l.records)) ≡ only_one (filter (λ r. is_in_month l.month r.day) l.records)
