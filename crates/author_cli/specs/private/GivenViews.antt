-- Inputs that take the values that are given.
use Rattle.std.specs.Prelude.{None}
use Rattle.limits_file.specs.declared.slots.Slot.{Slot}

-- an input that isn't filled from earlier runs
abbrev pub unbound_slot : Slot → Slot
unbound_slot s = record s { carry = None }
