use Rattle.book_year.specs.Picks.{planned_before, planned_after}
use Rattle.what_if.proofs.YearLemmas.{IsTrying}
use Rattle.what_if.proofs.trials.try_years.Given as goal

abbrev pub invariant-loop-year : goal.invariant-loop-year
invariant-loop-year g l =
    IsTrying (planned_before l.picks) (planned_after l.picks) l.years.list.items l.year-index l.rows.items l.runs l.taken
    l.initial.steps l.steps
