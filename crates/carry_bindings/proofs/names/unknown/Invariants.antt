use Rattle.std.proofs.Common.{◌≡◌, drop}
use Rattle.carry_bindings.specs.Filling.{unknown}
use Rattle.carry_bindings.proofs.names.unknown.Given as goal

abbrev pub invariant-loop-at : goal.invariant-loop-at
invariant-loop-at l = unknown l.slots (drop l.at l.values) ≡ unknown l.slots l.values
