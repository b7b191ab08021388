use Rattle.std.proofs.Common.{◌≡◌, map, take}
use Rattle.run_coverage.specs.private.Tallies.{runs_in}
use Rattle.run_coverage.proofs.coverage.Board.coverage.Given as goal

abbrev pub invariant-loop-method : goal.invariant-loop-method
invariant-loop-method l = l.methods.items ≡ map (map runs_in) (take l.method-index l.self.methods)
