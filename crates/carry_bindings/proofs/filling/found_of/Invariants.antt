use Rattle.std.proofs.Common.{◌≡◌, drop, take}
use Rattle.carry_bindings.specs.private.Views.{IsSofar, taken}
use Rattle.carry_bindings.proofs.filling.found_of.Given as goal

abbrev pub invariant-loop-slot : goal.invariant-loop-slot
invariant-loop-slot l = record {
  taken : l.found.taken.items ≡ taken (take l.slot-index l.slots) l.values;
  sofar : IsSofar l.values l.earlier l.slots (drop l.slot-index l.slots) l.found;
}
