use Rattle.book_year.specs.Picks.{planned_before, planned_after}
use Rattle.book_edits.proofs.RedoneLemmas.{IsRedoing}
use Rattle.book_edits.proofs.redone.redo_years.Given as goal

abbrev pub invariant-loop-year : goal.invariant-loop-year
invariant-loop-year g l =
    IsRedoing (planned_before l.picks) (planned_after l.picks) l.years.list.items l.year-index l.outcomes.items l.runs l.taken l.initial.steps l.steps
