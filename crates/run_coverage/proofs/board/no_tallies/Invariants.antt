use Rattle.std.proofs.Common.{◌≡◌, map, take}
use Rattle.run_coverage.specs.private.Tallies.{no_statements}
use Rattle.run_coverage.proofs.board.no_tallies.Given as goal

abbrev pub invariant-loop-count : goal.invariant-loop-count
invariant-loop-count l = l.methods.items ≡ map no_statements (take l.count-index l.counts)
