use Rattle.std.proofs.Common.{◌≡◌, map, take}
use Rattle.run_coverage.specs.private.Tallies.{runs_in}
use Rattle.run_coverage.proofs.runs.MethodRuns.of.Given as goal

abbrev pub invariant-loop-tally : goal.invariant-loop-tally
invariant-loop-tally l = l.statements.items ≡ map runs_in (take l.tally-index l.tallies)
