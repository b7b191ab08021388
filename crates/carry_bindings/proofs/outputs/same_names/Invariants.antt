use Rattle.std.proofs.Common.{◌≡◌, map, take}
use Rattle.payroll_records.specs.NamedValues.{name_of}
use Rattle.carry_bindings.proofs.outputs.same_names.Given as goal

abbrev pub invariant-loop-at : goal.invariant-loop-at
invariant-loop-at l = map name_of (take l.at l.before) ≡ map name_of (take l.at l.outputs)
