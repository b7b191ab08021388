use Rattle.open_runs.specs.OpenRuns.{counted_in}
use Rattle.open_runs.proofs.TallyLemmas.{IsUnderway}
use Rattle.open_runs.proofs.tally.open_runs.Given as goal

abbrev pub invariant-loop-row : goal.invariant-loop-row
invariant-loop-row l = IsUnderway l.initial.row-iterator l.row-iterator (counted_in l.tally)
