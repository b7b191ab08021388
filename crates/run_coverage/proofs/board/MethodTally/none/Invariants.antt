use Rattle.std.proofs.Common.{◌≡◌}
use Rattle.run_coverage.specs.private.Tallies.{no_statements}
use Rattle.run_coverage.proofs.board.MethodTally.none.Given as goal

abbrev pub invariant-loop : goal.invariant-loop
invariant-loop l = l.statements.items ≡ no_statements l.counter
